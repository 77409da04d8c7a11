-- Each call of policies that were read is served by the modules behind their instances' numbers.
use Rattle.std.specs.Prelude.{slice_get, find}
use Rattle.std.specs.List.{AllByRecursion}
use Rattle.std.specs.Option.{option_map, option_and_then}
use Rattle.std.proofs.Common.{◌≡◌, ℕ, zero, suc, Bool, true, false, cond, eqb, eqb-true, List, [], ◌∷◌, ◌++◌, Option, Some, None, Result, Ok, Err, refl, sym, ap, subst, ◌∙◌}
use Rattle.std.proofs.lemmas.Option.{slice_get-map, same_Some}
use Rattle.rad_words.specs.declared.sections.Section.{Section}
use Rattle.rad_words.specs.declared.sections.Section.TheVariants as section
use Rattle.mod_base.specs.Methods.{place_of, has_method}
use Rattle.unlang_tree.specs.declared.statement.Call.{Call}
use Rattle.unlang_tree.specs.declared.statement.Statement.{Statement}
use Rattle.unlang_tree.specs.declared.policies.Subsection.{Subsection}
use Rattle.unlang_tree.specs.declared.policies.SectionTree.{SectionTree}
use Rattle.unlang_tree.specs.declared.policies.ServerTree.{ServerTree}
use Rattle.rad_conf.specs.declared.tree.Node.{Node}
use Rattle.rad_dict.specs.Definitions.{Definitions}
use Rattle.unlang_tree.specs.declared.fault.TreeFault.{TreeFault}
use Rattle.unlang_tree.specs.Instances.{Instance}
use Rattle.unlang_tree.specs.Policies.{policies_of}
use Rattle.unlang_tree.specs.Sites.{Site}
use Rattle.unlang_tree.proofs.EachWider.{each_wider}
use Rattle.unlang_tree.proofs.CallsMet.{servers_met}
use Rattle.unlang_tree.specs.EachCall.{EachCall, EachCallIn, EachCallOfSections, EachCallOf, IsMet}
use Rattle.unlang_code.specs.declared.section_id.SectionId.{SectionId}
use Rattle.unlang_code.specs.Sections.{is_of_kind, section_in, statements_in, statements_of}
use Rattle.unlang_code.specs.Serving.{IsServed, Serves}
use Rattle.rad_modules.specs.declared.site_module.SiteModule.{SiteModule}
use Rattle.rad_modules.specs.SiteModules.{methods_of, site_module}
use Rattle.rad_build.specs.Modules.{AreInStep}
use Rattle.rad_build.specs.TreeFault.{of_tree}
use Rattle.rad_access.proofs.Found.{found_one}

-- a section by its place
section_at : ℕ → Section
section_at n = cond (eqb n 0) section.Authorize (cond (eqb n 1) section.Authenticate (cond (eqb n 2) section.Session (cond (eqb n 3) section.Preacct (cond (eqb n 4) section.Accounting section.PostAuth))))

placed : (kind : Section) → section_at (place_of kind) ≡ kind
unfolding section_at
placed section.Authorize = refl
placed section.Authenticate = refl
placed section.Session = refl
placed section.Preacct = refl
placed section.Accounting = refl
placed section.PostAuth = refl

same_kind : (a b : Section) → eqb (place_of a) (place_of b) ≡ true → a ≡ b
same_kind a b is = sym (placed a) ∙ ap section_at (eqb-true (place_of a) (place_of b) is) ∙ placed b

-- what stands behind an answer that is there
record Through {A B : Type 0} (f : A → Option B) (from : Option A) (y : B) : Type 0 where
  x : A
  there : from ≡ Some x
  gives : f x ≡ Some y

through : {A B : Type 0} (f : A → Option B) (from : Option A) (y : B) → option_and_then f from ≡ Some y → Through f from y
through f None y is = absurd (cc)
through f (Some x) y is = record { x = x; there = refl; gives = is }

all_at : {X : Type 0} (P : X → Type 0) (xs : List X) (n : ℕ) (x : X) → AllByRecursion P xs → slice_get xs n ≡ Some x → P x
all_at P [] n x all is = absurd (cc)
all_at P (y ∷ xs) zero x all is = subst P (same_Some y x is) all.0
all_at P (y ∷ xs) (suc n) x all is = all_at P xs n x all.1 is

module _ (holds : Section → Call → Type 0) where
  in_tree : (tree : SectionTree) (sub : Option ℕ) (statements : List Statement) → EachCallIn holds tree → statements_in sub tree ≡ Some statements → EachCall holds tree.section statements
  in_tree tree None statements all is = subst (EachCall holds tree.section) (same_Some tree.statements statements is) all.0
  in_tree tree (Some number) statements all is = in_sub (slice_get tree.subsections number) refl is where
    in_sub : (found : Option Subsection) → slice_get tree.subsections number ≡ found → option_map (λ (s : Subsection). s.statements) found ≡ Some statements → EachCall holds tree.section statements
    in_sub None at same = absurd (cc)
    in_sub (Some one) at same =
        subst (EachCall holds tree.section) (same_Some one.statements statements same)
        (all_at (λ (s : Subsection). EachCall holds tree.section s.statements) tree.subsections number one all.1 at)

  -- what holds of each call of servers holds of each call of a section of theirs
  pub in_section : (servers : List ServerTree) (id : SectionId) (statements : List Statement) → EachCallOf holds servers → statements_of servers id ≡ Some statements → EachCall holds id.section statements
  unfolding statements_of section_in
  in_section servers id statements all is =
      let tree = through (statements_in id.sub) (section_in servers id.server id.section) statements is in
      let server = through (λ (s : ServerTree). find (is_of_kind id.section) s.sections) (slice_get servers id.server) tree.x tree.there in
      let sections = all_at (λ (s : ServerTree). EachCallOfSections holds s.sections) servers id.server server.x all server.there in
      let one = found_one (EachCallIn holds) (is_of_kind id.section) server.x.sections tree.x sections server.gives in
      subst (λ (kind : Section). EachCall holds kind statements) (same_kind tree.x.section id.section one.1) (in_tree tree.x id.sub statements one.0 tree.gives)

-- the module behind the number of an instance that can be called
module _ (instances : List Instance) (stack : List SiteModule) (in_step : AreInStep instances stack) (kind : Section) (call : Call) where
  by_module : (i : Instance) (m : Option SiteModule) → slice_get stack call.instance ≡ m → Some i.methods.methods ≡ option_map methods_of m → has_method i.methods.methods kind ≡ true → IsServed site_module stack kind call
  by_module i None at is has = absurd (cc)
  by_module i (Some m) at is has = (m, at, subst (λ (methods : List Bool). has_method methods kind ≡ true) (same_Some i.methods.methods (methods_of m) is) has)

  by_instance : (i : Option Instance) → slice_get instances call.instance ≡ i
      → (elim (option_map (λ (one : Instance). one.methods) i) as (λ _. Bool) [ None ↦ false | Some methods ↦ has_method methods.methods kind ]) ≡ true → IsServed site_module stack kind call
  by_instance None at has = absurd (cc)
  by_instance (Some i) at has =
      by_module i (slice_get stack call.instance) refl
      (sym (ap (option_map (λ (one : Instance). one.methods.methods)) at)
      ∙ sym (slice_get-map (λ (one : Instance). one.methods.methods) instances call.instance)
      ∙ ap (λ (all : List (List Bool)). slice_get all call.instance) in_step
      ∙ slice_get-map methods_of stack call.instance)
      has

  pub met_is_served : IsMet instances kind call → IsServed site_module stack kind call
  met_is_served met = by_instance (slice_get instances call.instance) refl met

-- policies that were read are served
pub served : (instances : List Instance) (stack : List SiteModule) (servers : List ServerTree) → AreInStep instances stack → EachCallOf (IsMet instances) servers → Serves site_module stack servers
served instances stack servers in_step met = λ id statements is.
    each_wider (IsMet instances) (IsServed site_module stack) (met_is_served instances stack in_step) id.section statements
    (in_section (IsMet instances) servers id statements met is)

was_read : (read : Result (List ServerTree) TreeFault) (servers : List ServerTree) → of_tree read ≡ Ok servers → read ≡ Ok servers
was_read (Ok found) servers is = let same : found ≡ servers = cc in ap (λ s. Ok s) same
was_read (Err wrong) servers is = absurd (cc)

-- policies that were read with these instances are served by the modules behind them
pub served_by : (root : List Node) (dict : Definitions) (instances : List Instance) (stack : List SiteModule) (sections table : List ServerTree) → AreInStep instances stack
    → of_tree (policies_of root dict instances) ≡ Ok sections → table ≡ sections → Serves site_module stack table
served_by root dict instances stack sections table in_step read same =
    let one : Site = record { root = root; dict = dict; instances = instances } in
    subst (Serves site_module stack) (sym same) (served instances stack sections in_step (servers_met one sections (was_read (policies_of root dict instances) sections read)))

-- Where all that statements of authenticate do is to call modules that change nothing, whatever blocks they stand in, ok is an answer of one of
-- these modules.
use Rattle.std.specs.Prelude.{map, slice_get, find, nat_lt, length, unwrap_or}
use Rattle.std.specs.List.{AllByRecursion}
use Rattle.std.specs.Option.{option_map, option_to_list}
use Rattle.std.proofs.ByRecursion.{All-append, All-take, All-drop}
use Rattle.std.proofs.Common.{◌≡◌, ◌⊎◌, inl, inr, ℕ, Bool, true, false, cond, List, [], ◌∷◌, ◌++◌, take, drop, Option, Some, None, refl, sym, ap, subst, ◌∙◌}
use Rattle.rad_words.specs.declared.codes.Code.{Code}
use Rattle.rad_words.specs.declared.codes.Code.TheVariants as code
use Rattle.rad_words.specs.declared.sections.Section.{Section}
use Rattle.rad_words.specs.declared.sections.Section.TheVariants.{Authenticate}
use Rattle.rad_tables.specs.declared.action_table.Action.{Action}
use Rattle.rad_tables.specs.declared.action_table.Action.TheVariants as action
use Rattle.rad_tables.specs.declared.group_kind.GroupKind.{GroupKind}
use Rattle.rad_tables.specs.declared.group_kind.GroupKind.TheVariants.{Plain, Redundant}
use Rattle.rad_value.specs.PairLists.{PairLists}
use Rattle.rad_value.specs.declared.scope.Scope.{Scope}
use Rattle.rad_dict.specs.Definitions.{Definitions}
use Rattle.mod_base.specs.Situation.{Situation}
use Rattle.unlang_tree.specs.declared.update.Line.{Line}
use Rattle.unlang_cond.specs.Tests.{OnlyCaptures}
use Rattle.unlang_tree.specs.declared.statement.Arm.{Arm}
use Rattle.unlang_tree.specs.declared.statement.Call.{Call}
use Rattle.unlang_tree.specs.declared.statement.GroupForm.{GroupForm}
use Rattle.unlang_tree.specs.declared.statement.GroupForm.TheVariants as form
use Rattle.unlang_tree.specs.declared.statement.Override.{Override}
use Rattle.unlang_tree.specs.declared.statement.Statement.{Statement}
use Rattle.unlang_code.specs.Judgement.{child_of, ends, ending_code, heavier, heaviest, priority_of, judged, default_code}
use Rattle.unlang_code.specs.Leaves.{Calls, Edits, EachLeaf}
use Rattle.unlang_code.specs.Choosing.{Test, first_met, met_or}
use Rattle.unlang_code.proofs.Asking.{met_captures}
use Rattle.unlang_code.specs.Run.{arm_asked, arm_done, if_done, taken, Outcome, Piece, nothing, returned, updated, called_of, called, is_over, and_then, behind, block_of, picked, alone, rotated, chosen, balanced_in, formed, child_by, grouped, in_scope, begun, statement_done, section_done}
use Rattle.rad_modules.specs.declared.site_module.SiteModule.{SiteModule}
use Rattle.rad_modules.specs.SiteModules.{site_module}
use Rattle.rad_modules.specs.declared.site_module.SiteModule.TheVariants as site
use Rattle.rad_access.specs.declared.verdict.Verdict.TheVariants as verdict
use Rattle.rad_access.specs.Access.{after_authenticate}
use Rattle.rad_access.specs.Passwords.{NeverOk, CallsOnly}
use Rattle.rad_access.proofs.ByLeaves.{IsHandedOn, each_held}
use Rattle.rad_access.proofs.Found.{found_one}

-- what a function is given
abbrev GivenTo : {X Y : Type 0} → (X → Y) → Type 0
GivenTo {X = X} f = X

-- a child of a group, whose type has no name outside its crate
abbrev Child : Type 0
Child = GivenTo ends

-- Nothing that a check of passwords looks at differs between two situations.
pub record Alike (s t : Situation) : Type 0 where
  pub lists : t.scope.lists ≡ s.scope.lists
  pub authenticator : t.scope.authenticator ≡ s.scope.authenticator

-- Conditions change the captures alone.
captures_alike : (s : Situation) (scope : Scope) → OnlyCaptures s.scope scope → Alike s (in_scope scope s)
captures_alike s scope only = record { lists = ap (λ (x : Scope). x.lists) only; authenticator = ap (λ (x : Scope). x.authenticator) only }

alike_then : (a b c : Situation) → Alike a b → Alike b c → Alike a c
alike_then a b c first second = record { lists = second.lists ∙ first.lists; authenticator = second.authenticator ∙ first.authenticator }

-- The code with which a child ends its group is ok only where its own is.
ending_ok : (act : Action) (own : Code) → (elim act as (λ _. Code) [ action.Return ↦ own | action.Reject ↦ code.Reject | action.Priority n ↦ own ]) ≡ code.Ok → own ≡ code.Ok
ending_ok action.Return own is = is
ending_ok action.Reject own is = absurd (cc)
ending_ok (action.Priority n) own is = is

module _ (P : Child → Type 0) where
  by_test : (t : Bool) (child later : Child) → P child → P later → P (cond t later child)
  by_test true child later one other = other
  by_test false child later one other = one

  of_heavier : (child : Child) (o : Option Child) → P child → ((c : Child) → o ≡ Some c → P c) → P (heavier child o)
  of_heavier child None one more = one
  of_heavier child (Some later) one more = by_test (nat_lt (priority_of child) (priority_of later)) child later one (more later refl)

  of_heaviest : (children : List Child) (c : Child) → AllByRecursion P children → heaviest children ≡ Some c → P c
  of_heaviest [] c all is = absurd (cc)
  of_heaviest (child ∷ children) c all is =
      let same : heavier child (heaviest children) ≡ c = cc in
      subst P same (of_heavier child (heaviest children) all.0 (λ d at. of_heaviest children d all.1 at))

module _ (Has : List ℕ → PairLists → Type 0) where
  -- It is so of a situation.
  abbrev pub HasIn : Situation → Type 0
  HasIn s = Has s.scope.authenticator s.scope.lists

  pub has_alike : (s t : Situation) → Alike s t → HasIn t → HasIn s
  has_alike s t same has = subst (λ (lists : PairLists). Has s.scope.authenticator lists) same.lists (subst (λ (a : List ℕ). Has a t.scope.lists) same.authenticator has)

  -- A child of the code ok says that it is so of a situation.
  abbrev Vouches : Situation → Child → Type 0
  Vouches s child = child.code ≡ code.Ok → HasIn s

  -- What a piece comes to from a situation changes nothing that is looked at, and each child of the code ok vouches.
  record IsSound (s : Situation) (outcome : Outcome) : Type 0 where
    alike : Alike s outcome.situation
    children : AllByRecursion (Vouches s) outcome.children

  abbrev Sound : Piece → Type 0
  Sound piece = (kind : GroupKind) (s : Situation) → IsSound s (piece kind s)

  same : (s : Situation) → Alike s s
  same s = record { lists = refl; authenticator = refl }

  vouch_from : (s t : Situation) (children : List Child) → Alike s t → AllByRecursion (Vouches t) children → AllByRecursion (Vouches s) children
  vouch_from s t [] a all = tt
  vouch_from s t (child ∷ children) a all = ((λ is. has_alike s t a (all.0 is)), vouch_from s t children a all.1)

  and_then_sound : (s : Situation) (first : Outcome) (rest : Situation → Outcome) (t : Bool) → IsSound s first → IsSound first.situation (rest first.situation) → IsSound s (and_then t first rest)
  and_then_sound s first rest true one more = one
  and_then_sound s first rest false one more = record {
    alike = alike_then s first.situation (rest first.situation).situation one.alike more.alike;
    children = All-append (Vouches s) first.children (rest first.situation).children one.children
        (vouch_from s first.situation (rest first.situation).children one.alike more.children);
  }

  block_sound : (kind : GroupKind) (pieces : List Piece) → AllByRecursion Sound pieces → (s : Situation) → IsSound s (block_of kind pieces s)
  block_sound kind [] all s = record { alike = same s; children = tt }
  block_sound kind (piece ∷ pieces) all s =
      and_then_sound s (piece kind s) (block_of kind pieces) (is_over (piece kind s)) (all.0 kind s) (block_sound kind pieces all.1 (piece kind s).situation)

  chosen_sound : (s : Situation) (outcome : Outcome) → IsSound s outcome → IsSound s (chosen outcome)
  chosen_sound s outcome sound = record { alike = record { lists = sound.alike.lists; authenticator = sound.alike.authenticator }; children = sound.children }

  balanced_sound : (kind : GroupKind) (pieces : List Piece) → AllByRecursion Sound pieces → (s : Situation) → IsSound s (balanced_in kind pieces s)
  balanced_sound Plain [] all s = record { alike = same s; children = tt }
  balanced_sound Redundant [] all s = record { alike = same s; children = tt }
  balanced_sound Plain (piece ∷ pieces) all s =
      let n = picked s.scope (length (piece ∷ pieces)) in
      let from = All-drop Sound n (piece ∷ pieces) all in
      chosen_sound s (block_of Plain (alone n (piece ∷ pieces)) s) (block_sound Plain (alone n (piece ∷ pieces)) (All-take Sound 1 (drop n (piece ∷ pieces)) from) s)
  balanced_sound Redundant (piece ∷ pieces) all s =
      let n = picked s.scope (length (piece ∷ pieces)) in
      let all_round = All-append Sound (drop n (piece ∷ pieces)) (take n (piece ∷ pieces)) (All-drop Sound n (piece ∷ pieces) all) (All-take Sound n (piece ∷ pieces) all) in
      chosen_sound s (block_of Redundant (rotated n (piece ∷ pieces)) s) (block_sound Redundant (rotated n (piece ∷ pieces)) all_round s)

  formed_sound : (shape : GroupForm) (pieces : List Piece) → AllByRecursion Sound pieces → (s : Situation) → IsSound s (formed shape pieces s)
  formed_sound form.Group pieces all s = block_sound Plain pieces all s
  formed_sound form.Redundant pieces all s = block_sound Redundant pieces all s
  formed_sound form.LoadBalance pieces all s = balanced_sound Plain pieces all s
  formed_sound form.RedundantLoadBalance pieces all s = balanced_sound Redundant pieces all s
  formed_sound form.Policy pieces all s = block_sound Plain pieces all s

  -- the block of an arm is a sound one, or there is none
  abbrev SoundIf : Option Piece → Type 0
  SoundIf None = Unit {0}
  SoundIf (Some piece) = Sound piece

  met_sound_by : (arm : Test × Piece) (arms : List (Test × Piece)) → Sound arm.1 → ((scope : Scope) → SoundIf (first_met arms scope).0) → (asked : Bool × Scope) → SoundIf (met_or arm.1 (first_met arms) asked).0
  met_sound_by arm arms here more (true, scope) = here
  met_sound_by arm arms here more (false, scope) = more scope

  met_sound : (arms : List (Test × Piece)) → AllByRecursion (λ (arm : Test × Piece). Sound arm.1) arms → (scope : Scope) → SoundIf (first_met arms scope).0
  met_sound [] all scope = tt
  met_sound (arm ∷ arms) all scope = met_sound_by arm arms all.0 (met_sound arms all.1) (arm.0 scope)

  taken_sound : (met : Option Piece × Scope) → SoundIf met.0 → (kind : GroupKind) (s : Situation) → OnlyCaptures s.scope met.1 → IsSound s (taken met kind s)
  taken_sound (None, scope) sound kind s only = record { alike = captures_alike s scope only; children = tt }
  taken_sound (Some piece, scope) sound kind s only =
      let now = in_scope scope s in
      let done = sound kind now in record {
        alike = alike_then s now (piece kind now).situation (captures_alike s scope only) done.alike;
        children = vouch_from s now (piece kind now).children (captures_alike s scope only) done.children;
      }

  by_last : (s : Situation) (children : List Child) (last : Option Child) → AllByRecursion (Vouches s) children → find ends children ≡ last
      → (elim last as (λ _. Option Code) [ Some c ↦ Some (ending_code c) | None ↦ option_map (λ (c : Child). c.code) (heaviest children) ]) ≡ Some code.Ok → HasIn s
  by_last s children (Some last) all at is =
      let found = found_one (Vouches s) ends children last all at in
      found.0 (ending_ok last.action last.code (cc))
  by_last s children None all at is = by_heaviest (heaviest children) refl is where
    by_heaviest : (first : Option Child) → heaviest children ≡ first → option_map (λ (c : Child). c.code) first ≡ Some code.Ok → HasIn s
    by_heaviest None same_one is_ok = absurd (cc)
    by_heaviest (Some first) same_one is_ok = of_heaviest (Vouches s) children first all same_one (cc)

  -- a group of the code ok has a child that vouches
  pub judged_sound : (s : Situation) (children : List Child) → AllByRecursion (Vouches s) children → judged children ≡ Some code.Ok → HasIn s
  judged_sound s children all is = by_last s children (find ends children) all refl is

  by_code : (s : Situation) (where_it_stands : Section) (kind : GroupKind) (overrides : List Override) (answer : Option Code) → (answer ≡ Some code.Ok → HasIn s)
      → AllByRecursion (Vouches s) (child_by where_it_stands kind overrides answer)
  by_code s where_it_stands kind overrides None has = tt
  by_code s where_it_stands kind overrides (Some answer) has = ((λ is. has (ap (λ (c : Code). Some c) is)), tt)

-- What the modules of a kind keep in authenticate, and what their answer ok says.
abbrev pub Stays : Definitions → (SiteModule → Type 0) → Type 0
Stays dict IsOfKind = (m : SiteModule) (s : Situation) → IsOfKind m → Alike s (site_module.does m dict Authenticate s).0

-- Where a module of this kind answers ok in authenticate, this is so of the Request Authenticator and the lists.
abbrev pub Shows : Definitions → (SiteModule → Type 0) → (List ℕ → PairLists → Type 0) → Type 0
Shows dict IsOfKind Has = (m : SiteModule) (s : Situation) → IsOfKind m → (site_module.does m dict Authenticate s).1 ≡ code.Ok → Has s.scope.authenticator s.scope.lists

-- By its code authenticate accepts at ok alone.
only_ok : (answer : Option Code) → after_authenticate (unwrap_or answer (default_code Authenticate)) ≡ verdict.Accept → answer ≡ Some code.Ok
only_ok None is = absurd (cc)
only_ok (Some code.Reject) is = absurd (cc)
only_ok (Some code.Fail) is = absurd (cc)
only_ok (Some code.Ok) is = refl
only_ok (Some code.Handled) is = absurd (cc)
only_ok (Some code.Invalid) is = absurd (cc)
only_ok (Some code.Userlock) is = absurd (cc)
only_ok (Some code.Notfound) is = absurd (cc)
only_ok (Some code.Noop) is = absurd (cc)
only_ok (Some code.Updated) is = absurd (cc)

module _ (stack : List SiteModule) (dict : Definitions) (IsOfKind : SiteModule → Type 0) (Has : List ℕ → PairLists → Type 0) (stays : Stays dict IsOfKind) (shows : Shows dict IsOfKind Has) where
  never_sound : (m : SiteModule) → NeverOk m → (kind : GroupKind) (overrides : List Override) (s : Situation) → IsSound Has s (called_of site_module dict Authenticate kind overrides (Some m) s)
  never_sound (site.Always m) never kind overrides s = record { alike = record { lists = refl; authenticator = refl }; children = ((λ is. absurd (never is)), tt) }
  never_sound (site.Files m) never kind overrides s = absurd never
  never_sound (site.Pap m) never kind overrides s = absurd never
  never_sound (site.Chap m) never kind overrides s = absurd never
  never_sound (site.Realm m) never kind overrides s = absurd never
  never_sound (site.Filter m) never kind overrides s = absurd never

  module_sound : (m : SiteModule) → IsOfKind m ⊎ NeverOk m → (kind : GroupKind) (overrides : List Override) (s : Situation) → IsSound Has s (called_of site_module dict Authenticate kind overrides (Some m) s)
  module_sound m (inl is) kind overrides s =
      let kept = stays m s is in record {
        alike = record { lists = kept.lists; authenticator = kept.authenticator };
        children = ((λ ok. shows m s is ok), tt);
      }
  module_sound m (inr never) kind overrides s = never_sound m never kind overrides s

  call_sound : (call : Call) → CallsOnly IsOfKind stack (Calls call) → Sound Has (λ kind. called site_module stack dict Authenticate kind call)
  call_sound call asked kind s =
      subst (λ (o : Option SiteModule). IsSound Has s (called_of site_module dict Authenticate kind call.overrides o s)) (sym asked.1) (module_sound asked.0 asked.2 kind call.overrides s)

  update_sound : (lines : List Line) → AllByRecursion (CallsOnly IsOfKind stack) (map Edits lines) → Sound Has (λ kind. updated dict Authenticate kind lines)
  update_sound [] all kind s = record { alike = record { lists = refl; authenticator = refl }; children = ((λ is. absurd (cc)), tt) }
  update_sound (line ∷ lines) all kind s = absurd all.0

  block_held : (shape : GroupForm) (overrides : List Override) (pieces : List Piece) → AllByRecursion (Sound Has) pieces → Sound Has (λ kind s. grouped Authenticate kind overrides (formed shape pieces s))
  block_held shape overrides pieces all kind s =
      let sound = formed_sound Has shape pieces all s in record {
        alike = sound.alike;
        children = by_code Has s Authenticate kind overrides (judged (formed shape pieces s).children) (judged_sound Has s (formed shape pieces s).children sound.children);
      }

  if_held : (arms : List Arm) → AllByRecursion (λ (arm : Test × Piece). Sound Has arm.1) (map (arm_asked site_module stack dict Authenticate) arms) → Sound Has (if_done site_module stack dict Authenticate arms)
  if_held arms all kind s =
      let asked = map (arm_asked site_module stack dict Authenticate) arms in
      taken_sound Has (first_met asked s.scope) (met_sound Has asked all s.scope) kind s (met_captures dict (arm_done site_module stack dict Authenticate) arms s.scope)

  handed_on : IsHandedOn site_module stack dict Authenticate (CallsOnly IsOfKind stack) (Sound Has)
  handed_on = record {
    calls = call_sound;
    returns = λ kind s. record { alike = record { lists = refl; authenticator = refl }; children = tt };
    updates = update_sound;
    arms = λ pieces all. block_held form.Group [] pieces all;
    ifs = if_held;
    blocks = block_held;
  }

  -- A section of authenticate that only calls such modules accepts only where it is so.
  pub section_has : (statements : List Statement) (s : Situation) → EachLeaf (CallsOnly IsOfKind stack) statements
      → after_authenticate (section_done site_module stack dict Authenticate statements s).1 ≡ verdict.Accept → HasIn Has s
  section_has statements s each is =
      let started = in_scope (begun s.scope) s in
      let pieces = map (statement_done site_module stack dict Authenticate) statements in
      let sound = block_sound Has Plain pieces (each_held site_module stack dict Authenticate (CallsOnly IsOfKind stack) (Sound Has) handed_on statements each) started in
      judged_sound Has started (block_of Plain pieces started).children sound.children (only_ok (judged (block_of Plain pieces started).children) is)

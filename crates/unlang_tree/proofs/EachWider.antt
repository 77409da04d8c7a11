-- What holds of each call stays with one statement more, and where something wider is asked.
use Rattle.std.proofs.Common.{List, [], ◌∷◌, ◌++◌, sym, subst}
use Rattle.std.specs.List.{AllByRecursion}
use Rattle.std.proofs.lemmas.Grind.{flat_map-append}
use Rattle.rad_words.specs.declared.sections.Section.{Section}
use Rattle.unlang_tree.specs.declared.statement.Call.{Call}
use Rattle.unlang_tree.specs.declared.statement.Statement.{Statement}
use Rattle.unlang_tree.specs.declared.policies.Subsection.{Subsection}
use Rattle.unlang_tree.specs.declared.policies.SectionTree.{SectionTree}
use Rattle.unlang_tree.specs.declared.policies.ServerTree.{ServerTree}
use Rattle.unlang_tree.specs.EachCall.{calls_in, calls_of, EachCall, EachCallWithin, EachCallIn, EachCallOfSections, EachCallOf}
use Rattle.unlang_tree.proofs.Binds.{all_both, all_wider}

module _ (holds : Section → Call → Type 0) (section : Section) where
  -- one statement more
  pub each_added : (statements : List Statement) (one : Statement) → EachCall holds section statements → AllByRecursion (holds section) (calls_in one)
      → EachCall holds section (statements ++ one ∷ [])
  each_added statements one all more =
      subst (AllByRecursion (holds section)) (sym (flat_map-append calls_in statements (one ∷ [])))
      (all_both (holds section) (calls_of statements) (calls_in one ++ []) all (all_both (holds section) (calls_in one) [] more tt))

-- what holds of calls wherever another does
pub each_wider : (holds wider : Section → Call → Type 0) → ((section : Section) (call : Call) → holds section call → wider section call)
    → (section : Section) (statements : List Statement) → EachCall holds section statements → EachCall wider section statements
each_wider holds wider h section statements all = all_wider (holds section) (wider section) (h section) (calls_of statements) all

within_wider : (holds wider : Section → Call → Type 0) → ((section : Section) (call : Call) → holds section call → wider section call)
    → (section : Section) (subs : List Subsection) → EachCallWithin holds section subs → EachCallWithin wider section subs
within_wider holds wider h section subs all =
    all_wider (λ (sub : Subsection). EachCall holds section sub.statements) (λ (sub : Subsection). EachCall wider section sub.statements)
    (λ sub. each_wider holds wider h section sub.statements) subs all

section_wider : (holds wider : Section → Call → Type 0) → ((section : Section) (call : Call) → holds section call → wider section call)
    → (tree : SectionTree) → EachCallIn holds tree → EachCallIn wider tree
section_wider holds wider h tree all =
    (each_wider holds wider h tree.section tree.statements all.0, within_wider holds wider h tree.section tree.subsections all.1)

pub servers_wider : (holds wider : Section → Call → Type 0) → ((section : Section) (call : Call) → holds section call → wider section call)
    → (servers : List ServerTree) → EachCallOf holds servers → EachCallOf wider servers
servers_wider holds wider h servers all =
    all_wider (λ (server : ServerTree). EachCallOfSections holds server.sections) (λ (server : ServerTree). EachCallOfSections wider server.sections)
    (λ server. all_wider (EachCallIn holds) (EachCallIn wider) (section_wider holds wider h) server.sections) servers all

-- What each leaf of a section keeps of the lists, the section keeps.
use Rattle.rad_words.specs.declared.sections.Section.{Section}
use Rattle.rad_tables.specs.declared.group_kind.GroupKind.TheVariants.{Plain}
use Rattle.rad_value.specs.PairLists.{PairLists}
use Rattle.rad_dict.specs.Definitions.{Definitions}
use Rattle.mod_base.specs.Situation.{Situation}
use Rattle.mod_base.specs.Meaning.{Meaning}
use Rattle.unlang_tree.specs.declared.statement.Statement.{Statement}
use Rattle.std.proofs.Common.{List, sym, subst}
use Rattle.rad_value.specs.declared.scope.Scope.{Scope}
use Rattle.unlang_code.specs.Run.{section_done, begun, in_scope}
use Rattle.unlang_code.specs.Leaves.{EachLeaf, LeafKeeps}
use Rattle.unlang_code.proofs.Leaving.{IsLasting, run_leads}

module _ {M : Type 0} (fact : PairLists → Type 0) (meaning : Meaning M) (stack : List M) (dict : Definitions) (section : Section) where
  abbrev Keeps : Situation → Situation → Type 0
  Keeps s t = fact s.scope.lists → fact t.scope.lists

  lasts : IsLasting Keeps
  lasts = record {
    alike = λ s holds. holds;
    joined = λ a b c first second holds. second (first holds);
    noted = λ s t answer keeps. keeps;
    chose = λ s t keeps. keeps;
    captured = λ s scope only holds. subst (λ (x : Scope). fact x.lists) (sym only) holds;
  }

  -- a section keeps what each of its leaves keeps
  pub section_keeps : (statements : List Statement) → EachLeaf (LeafKeeps fact meaning stack dict section) statements → (s : Situation) → fact s.scope.lists
      → fact (section_done meaning stack dict section statements s).0.scope.lists
  section_keeps statements each s holds = run_leads Keeps lasts meaning stack dict section statements each Plain (in_scope (begun s.scope) s) holds

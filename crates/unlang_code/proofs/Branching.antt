-- The law of what an `if` runs.
use Rattle.std.proofs.Common.{◌≡◌, Bool, true, List, [], ◌∷◌, ◌++◌, Option, Some, None, sym, ap, subst, ◌∙◌}
use Rattle.rad_tables.specs.declared.group_kind.GroupKind.{GroupKind}
use Rattle.rad_words.specs.declared.sections.Section.{Section}
use Rattle.rad_value.specs.declared.scope.Scope.{Scope}
use Rattle.rad_dict.specs.Definitions.{Definitions}
use Rattle.mod_base.specs.Situation.{Situation}
use Rattle.mod_base.specs.Meaning.{Meaning}
use Rattle.unlang_cond.specs.Tests.{OnlyCaptures}
use Rattle.unlang_tree.specs.declared.statement.Arm.{Arm, out-Arm}
use Rattle.unlang_code.specs.Choosing.{asks, met_or, taken_of}
use Rattle.unlang_code.specs.Branches.{NoneHolds}
use Rattle.unlang_code.specs.Run.{Piece, in_scope, nothing, taken, arm_done, if_done}
use Rattle.unlang_code.proofs.Asking.{captures_twice, question_captures, met_is, the_arm}

none_taken : (dict : Definitions) (arms : List Arm) (before now : Scope) → NoneHolds dict arms before now → taken_of dict arms before ≡ (None, now)
none_taken dict [] before now none = ap (λ (scope : Scope). let met : Option Arm × Scope = (None, scope) in met) (sym none)
none_taken dict (arm ∷ arms) before now none = ap (met_or arm (taken_of dict arms)) none.1 ∙ none_taken dict arms none.0 now none.2

first_taken : (dict : Definitions) (others : List Arm) (arm : Arm) (later : List Arm) (before so_far now : Scope) → NoneHolds dict others before so_far → asks dict (out-Arm arm).condition so_far ≡ (true, now)
    → taken_of dict (others ++ arm ∷ later) before ≡ (Some arm, now)
first_taken dict [] arm later before so_far now none is =
    ap (λ (scope : Scope). met_or arm (taken_of dict later) (asks dict (out-Arm arm).condition scope)) (sym none) ∙ ap (met_or arm (taken_of dict later)) is
first_taken dict (other ∷ others) arm later before so_far now none is =
    ap (met_or other (taken_of dict (others ++ arm ∷ later))) none.1 ∙ first_taken dict others arm later none.0 so_far now none.2 is

pub none_captures : (dict : Definitions) (arms : List Arm) (before now : Scope) → NoneHolds dict arms before now → OnlyCaptures before now
none_captures dict [] before now none = none ∙ ap (λ (scope : Scope). record before { captures = scope.captures }) (sym none)
none_captures dict (arm ∷ arms) before now none =
    let first : OnlyCaptures before none.0 = subst (λ (answer : Bool × Scope). OnlyCaptures before answer.1) none.1 (question_captures dict (out-Arm arm).condition before) in
    captures_twice before none.0 now first (none_captures dict arms none.0 now none.2)

module _ {M : Type 0} (meaning : Meaning M) where
  pub first_runs : (stack : List M) (dict : Definitions) (section : Section) (others : List Arm) (arm : Arm) (later : List Arm) (kind : GroupKind) (s : Situation) (so_far now : Scope)
      → NoneHolds dict others s.scope so_far → asks dict (out-Arm arm).condition so_far ≡ (true, now)
      → if_done meaning stack dict section (others ++ arm ∷ later) kind s ≡ arm_done meaning stack dict section arm kind (in_scope now s)
  first_runs stack dict section others arm later kind s so_far now none is =
      let block = arm_done meaning stack dict section in
      ap (λ (met : Option Piece × Scope). taken met kind s) (met_is dict block (others ++ arm ∷ later) s.scope ∙ ap (the_arm dict block) (first_taken dict others arm later s.scope so_far now none is))

  pub none_runs : (stack : List M) (dict : Definitions) (section : Section) (arms : List Arm) (kind : GroupKind) (s : Situation) (now : Scope) → NoneHolds dict arms s.scope now
      → if_done meaning stack dict section arms kind s ≡ nothing (in_scope now s)
  none_runs stack dict section arms kind s now none =
      let block = arm_done meaning stack dict section in
      ap (λ (met : Option Piece × Scope). taken met kind s) (met_is dict block arms s.scope ∙ ap (the_arm dict block) (none_taken dict arms s.scope now none))

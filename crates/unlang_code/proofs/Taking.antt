-- An `if`, by the arm that it takes.
use Rattle.std.specs.List.{AllByRecursion}
use Rattle.std.proofs.Common.{◌≡◌, List, Bool, Option, Some, None, ap, ◌∙◌}
use Rattle.rad_words.specs.declared.sections.Section.{Section}
use Rattle.rad_tables.specs.declared.group_kind.GroupKind.{GroupKind}
use Rattle.rad_value.specs.declared.scope.Scope.{Scope}
use Rattle.rad_dict.specs.Definitions.{Definitions}
use Rattle.rad_world.specs.Effects.{Effect}
use Rattle.rad_world.specs.World.{WorldState}
use Rattle.mod_base.specs.Situation.{Situation, situation_in}
use Rattle.mod_base.specs.Meaning.{Meaning, IsLawful}
use Rattle.mod_base.specs.Reaching.{Reaches, Stops}
use Rattle.mod_base.proofs.Reached.{reaches_joined, reaches_then, stops_start, stops_joined}
use Rattle.unlang_tree.specs.declared.statement.Arm.{Arm}
use Rattle.unlang_code.specs.declared.progress.Done.{Done}
use Rattle.unlang_code.specs.Choosing.{taken_of}
use Rattle.unlang_code.specs.Progressing.{done_in, untaken_done}
use Rattle.unlang_code.specs.Run.{Piece, Outcome, in_scope, nothing, taken, arm_done, if_done}
use Rattle.unlang_code.proofs.Asking.{met_is, the_arm}
use Rattle.unlang_code.proofs.Leaving.{any_if_leads}
use Rattle.unlang_code.proofs.Running.{Grows, lasts, leaves_grow, reaches_moved}

module _ {M : Type 0} (meaning : Meaning M) (stack : List M) (dict : Definitions) (section : Section) (kind : GroupKind) (arms : List Arm) (s0 s1 : Scope) (w0 : WorldState) where
  abbrev whole : Situation → Outcome
  whole = if_done meaning stack dict section arms kind

  met_at : (met : Option Arm × Scope) → taken_of dict arms s0 ≡ met → (later : List Bool) (earlier : List Effect)
      → whole (situation_in s0 w0 later earlier) ≡ taken (the_arm dict (arm_done meaning stack dict section) met) kind (situation_in s0 w0 later earlier)
  met_at met is later earlier =
      let block = arm_done meaning stack dict section in
      ap (λ (m : Option Piece × Scope). taken m kind (situation_in s0 w0 later earlier)) (met_is dict block arms s0 ∙ ap (the_arm dict block) is)

  -- no arm is taken
  pub untaken_reaches : taken_of dict arms s0 ≡ (None, s1) → Reaches s0 w0 whole s1 w0 (done_in untaken_done)
  untaken_reaches is = reaches_moved s0 s1 w0 whole (done_in untaken_done) (met_at (None, s1) is)

  module _ (arm : Arm) (is : taken_of dict arms s0 ≡ (Some arm, s1)) where
    abbrev block_of_arm : Situation → Outcome
    block_of_arm = arm_done meaning stack dict section arm kind

    arm_is_left : Reaches s0 w0 whole s1 w0 block_of_arm
    arm_is_left = reaches_moved s0 s1 w0 whole block_of_arm (met_at (Some arm, s1) is)

    -- behind the arm that is taken
    pub taken_reaches : (s2 : Scope) (w1 : WorldState) (done : Done) → Reaches s1 w0 block_of_arm s2 w1 (done_in done) → Reaches s0 w0 whole s2 w1 (done_in done)
    taken_reaches s2 w1 done reached = reaches_joined s0 s1 s2 w0 w0 w1 whole block_of_arm (done_in done) arm_is_left reached

    -- where its block stopped, the `if` has
    pub taken_stops : (w1 : WorldState) → Stops s1 w0 (λ s. (block_of_arm s).situation.effects) w1 → Stops s0 w0 (λ s. (whole s).situation.effects) w1
    taken_stops w1 stopped =
        stops_joined s0 s1 w0 w0 w1 (λ s. (whole s).situation.effects) (λ s. (block_of_arm s).situation.effects)
        (reaches_then s0 s1 w0 w0 whole block_of_arm (λ (o : Outcome). o.situation.effects) arm_is_left) stopped

-- a condition that stopped has made no effect
pub question_stops : {M : Type 0} (meaning : Meaning M) (lawful : (m : M) (dict : Definitions) (method : Section) (s : Situation) → IsLawful (meaning.edits m) method s (meaning.does m dict method s).0)
    (stack : List M) (dict : Definitions) (section : Section) (kind : GroupKind) (arms : List Arm) (s0 : Scope) (w0 : WorldState) → Stops s0 w0 (λ s. (if_done meaning stack dict section arms kind s).situation.effects) w0
question_stops meaning lawful stack dict section kind arms s0 w0 =
    stops_start s0 w0 (λ s. (if_done meaning stack dict section arms kind s).situation.effects) (any_if_leads Grows lasts meaning stack dict section arms (leaves_grow meaning lawful stack dict section) kind)

-- What a section's statements mean: from a situation to a situation and a code, after unlang(5).
use Rattle.std.specs.Prelude.{◌≡◌, ℕ, ◌+◌, ◌%◌, ◌^◌, ◌==◌, Bool, true, false, List, [], ◌∷◌, ◌++◌, length, map, take, drop, slice_get, Option, Some, None, unwrap_or, replicate, if◌then◌else◌}
use Rattle.std.specs.List.{list_any}
use Rattle.std.specs.Option.{option_map, option_to_list}
use Rattle.rad_words.specs.declared.codes.Code.{Code}
use Rattle.rad_words.specs.declared.codes.Code.TheVariants as code
use Rattle.rad_words.specs.declared.sections.Section.{Section}
use Rattle.rad_tables.specs.declared.group_kind.GroupKind.{GroupKind}
use Rattle.rad_tables.specs.declared.group_kind.GroupKind.TheVariants.{Plain, Redundant}
use Rattle.rad_value.specs.declared.scope.Scope.{Scope}
use Rattle.rad_dict.specs.Definitions.{Definitions}
use Rattle.mod_base.specs.Situation.{Situation}
use Rattle.mod_base.specs.Meaning.{Meaning}
use Rattle.unlang_tree.specs.declared.update.Line.{Line}
use Rattle.unlang_tree.specs.declared.statement.Arm.{Arm, out-Arm}
use Rattle.unlang_tree.specs.declared.statement.Call.{Call}
use Rattle.unlang_tree.specs.declared.statement.Group.{Group, out-Group}
use Rattle.unlang_tree.specs.declared.statement.GroupForm.{GroupForm}
use Rattle.unlang_tree.specs.declared.statement.GroupForm.TheVariants as form
use Rattle.unlang_tree.specs.declared.statement.Override.{Override}
use Rattle.unlang_tree.specs.declared.statement.Statement.{Statement}
use Rattle.unlang_tree.specs.declared.statement.StatementKind.{StatementKind}
use Rattle.unlang_tree.specs.declared.statement.StatementKind.TheOpen.{StatementKind-F, Group-F, Statement-F, Arm-F}
use Rattle.unlang_tree.specs.declared.statement.StatementKind.TheOpen as level
use Rattle.unlang_tree.specs.declared.statement.StatementKind.TheFolds.{fold-StatementKind, fold-Statement}
use Rattle.unlang_tree.specs.declared.policies.ServerTree.{ServerTree}
use Rattle.unlang_code.specs.declared.judgement.Child.{Child}
use Rattle.unlang_code.specs.declared.progress.Signal.{Signal}
use Rattle.unlang_code.specs.declared.progress.Signal.TheVariants.{Goes, Returns}
use Rattle.unlang_code.specs.declared.section_id.SectionId.{SectionId}
use Rattle.unlang_code.specs.Judgement.{child_of, ends, judged, default_code}
use Rattle.unlang_code.specs.Sections.{statements_of}
use Rattle.unlang_code.specs.Choosing.{Test, asks, first_met}
use Rattle.unlang_code.specs.Updates.{lines_done}

-- The run goes on with the next statement.
abbrev pub goes : Signal → Bool
goes Goes = true
goes Returns = false

-- What a piece of a policy came to: the situation, the signal, and the children that it gave its group.
pub record Outcome : Type 0 where
  pub situation : Situation
  pub signal : Signal
  pub children : List Child

-- A piece of a policy, in a group of a kind.
abbrev pub Piece : Type 0
Piece = GroupKind → Situation → Outcome

-- The situation in this scope.
abbrev pub in_scope : Scope → Situation → Situation
in_scope scope situation = record situation { scope = scope }

-- The scope with this last code.
abbrev pub with_last : Code → Scope → Scope
with_last answer scope = record scope { last = Some answer }

-- The scope with one more member of a load-balance block chosen; 0 follows 2^32 - 1.
abbrev pub with_choice : Scope → Scope
with_choice scope = record scope { choices = (scope.choices + 1) % 2 ^ 32 }

-- The scope as a section begins: without a last code and without the values of loops.
abbrev pub begun : Scope → Scope
begun scope = record scope { last = None; loops = replicate 8 None }

-- A piece that gives its group one child.
abbrev pub one_child : Child → Situation → Outcome
one_child child situation = record { situation = situation; signal = Goes; children = child ∷ [] }

-- A piece that isn't there.
abbrev pub nothing : Situation → Outcome
nothing situation = record { situation = situation; signal = Goes; children = [] }

-- `return` ends the section. It is no child.
abbrev pub returned : Situation → Outcome
returned situation = record { situation = situation; signal = Returns; children = [] }

-- The code of an update: noop where each of its lines was done, else fail.
abbrev pub update_code : Bool → Code
update_code true = code.Noop
update_code false = code.Fail

-- An update that came to a scope. It gives a child and doesn't set the last code.
abbrev pub updated_with : Section → GroupKind → Scope × Bool → Situation → Outcome
updated_with where_it_stands kind done situation = one_child (child_of where_it_stands kind [] (update_code done.1)) (in_scope done.0 situation)

-- An update: its lines in order, up to the first that can't be done.
abbrev pub updated : Definitions → Section → GroupKind → List Line → Situation → Outcome
updated dict section kind lines situation = updated_with section kind (lines_done dict lines situation.scope) situation

-- A call that came to a situation and a code: it is the last code, and the code of a child.
abbrev pub called_with : Section → GroupKind → List Override → Situation × Code → Outcome
called_with section kind overrides done = one_child (child_of section kind overrides done.1) (in_scope (with_last done.1 done.0.scope) done.0)

-- A call of a module, where there is one.
abbrev pub called_of : {M : Type 0} → Meaning M → Definitions → Section → GroupKind → List Override → Option M → Situation → Outcome
called_of meaning dict where_it_stands kind overrides None situation = nothing situation
called_of meaning dict where_it_stands kind overrides (Some m) situation = called_with where_it_stands kind overrides (meaning.does m dict where_it_stands situation)

-- A call of the module of a number.
abbrev pub called : {M : Type 0} → Meaning M → List M → Definitions → Section → GroupKind → Call → Situation → Outcome
called meaning stack dict section kind call = called_of meaning dict section kind call.overrides (slice_get stack call.instance)

-- The group ends here: the signal leads elsewhere, or a child ends it.
abbrev pub is_over : Outcome → Bool
is_over outcome = if goes outcome.signal then list_any ends outcome.children else true

-- What is done behind a piece is done with its children in front; nothing is, where the group is over.
abbrev pub behind : List Child → Outcome → Outcome
behind children outcome = record outcome { children = children ++ outcome.children }

-- A piece, and the rest behind it where the group isn't over.
abbrev pub and_then : Bool → Outcome → (Situation → Outcome) → Outcome
and_then true first rest = first
and_then false first rest = behind first.children (rest first.situation)

-- A block of pieces in a group of a kind: they are done in order, up to the first behind which the group ends.
abbrev pub block_of : GroupKind → List Piece → Situation → Outcome
block_of kind [] situation = nothing situation
block_of kind (piece ∷ pieces) situation = and_then (is_over (piece kind situation)) (piece kind situation) (block_of kind pieces)

-- The number of the member at which a block that balances begins: that of the request's luck and of the choices made so far,
-- whose sum doesn't wrap.
abbrev pub picked : Scope → ℕ → ℕ
picked scope members = (scope.luck + scope.choices) % members

-- The member of a number alone.
abbrev pub alone : {X : Type 0} → ℕ → List X → List X
alone n members = take 1 (drop n members)

-- All members, from that of a number on and once round.
abbrev pub rotated : {X : Type 0} → ℕ → List X → List X
rotated n members = drop n members ++ take n members

-- One more choice was made.
abbrev pub chosen : Outcome → Outcome
chosen outcome = record outcome { situation = in_scope (with_choice outcome.situation.scope) outcome.situation }

-- A block that balances: the members that are picked run, in a group of a kind, and then one more choice was made. Without
-- members nothing is done.
abbrev pub balanced : GroupKind → (ℕ → List Piece → List Piece) → List Piece → Situation → Outcome
balanced kind order [] situation = nothing situation
balanced kind order (first ∷ others) situation =
    chosen (block_of kind (order (picked situation.scope (length (first ∷ others))) (first ∷ others)) situation)

-- A block that balances, in a group of its kind: a plain one runs the picked member alone, and a redundant one all from it
-- on and once round.
abbrev pub balanced_in : GroupKind → List Piece → Situation → Outcome
balanced_in Plain pieces = balanced Plain alone pieces
balanced_in Redundant pieces = balanced Redundant rotated pieces

-- The number of the member at which a block of so many members begins, where it has one.
abbrev pub picked_of : Scope → ℕ → Option ℕ
picked_of scope members = if members == 0 then None else Some (picked scope members)

-- The members of a block of this form: `group` and `redundant` run them in order, `load-balance` one of them, and
-- `redundant-load-balance` all from that one on. The statements of a policy run where it is called, as those of a `group`.
abbrev pub formed : GroupForm → List Piece → Situation → Outcome
formed form.Group pieces = block_of Plain pieces
formed form.Redundant pieces = block_of Redundant pieces
formed form.LoadBalance pieces = balanced_in Plain pieces
formed form.RedundantLoadBalance pieces = balanced_in Redundant pieces
formed form.Policy pieces = block_of Plain pieces

-- The child that a block gives its group: by its own code and actions, and none where it has no code.
abbrev pub child_by : Section → GroupKind → List Override → Option Code → List Child
child_by section kind overrides answer = option_to_list (option_map (child_of section kind overrides) answer)

-- A block that came to an outcome is judged in its group.
abbrev pub grouped : Section → GroupKind → List Override → Outcome → Outcome
grouped section kind overrides outcome = record outcome { children = child_by section kind overrides (judged outcome.children) }

-- The block of the arm that is taken, in the scope behind the questions. Where no arm is taken nothing else is done, and the
-- `if` is no child.
abbrev pub taken : Option Piece × Scope → Piece
taken (None, scope) kind situation = nothing (in_scope scope situation)
taken (Some block, scope) kind situation = block kind (in_scope scope situation)

-- An `if`, by its arms: what each asks, and its block.
abbrev pub branched : List (Test × Piece) → Piece
branched arms kind situation = taken (first_met arms situation.scope) kind situation

-- The block of an arm is a group of its own, with the actions of a plain one. It is judged in the group of the `if` by its code
-- and that group's actions, and has none of its own.
abbrev pub arm_block : Section → List Piece → Piece
arm_block section pieces kind situation = grouped section kind [] (block_of Plain pieces situation)

-- What a kind of statement means, by what the statements in it mean.
abbrev pub kind_step : {M : Type 0} → Meaning M → List M → Definitions → Section → StatementKind-F Piece (Test × Piece) Piece Piece → Piece
kind_step meaning stack dict where_it_stands (level.Call call) = λ kind. called meaning stack dict where_it_stands kind call
kind_step meaning stack dict where_it_stands (level.Group group) = group
kind_step meaning stack dict where_it_stands level.Return = λ kind. returned
kind_step meaning stack dict where_it_stands (level.Update lines) = λ kind. updated dict where_it_stands kind lines
kind_step meaning stack dict where_it_stands (level.If arms) = branched arms

-- What a block means, by what its statements mean.
abbrev pub group_step : Section → Group-F Piece (Test × Piece) Piece Piece → Piece
group_step section group = λ kind situation. grouped section kind group.overrides (formed group.form group.statements situation)

-- What an arm of an `if` asks, and what its block means, by what its statements mean.
abbrev pub arm_step : Definitions → Section → Arm-F Piece (Test × Piece) Piece Piece → Test × Piece
arm_step dict section arm = (asks dict arm.condition, arm_block section arm.statements)

-- A statement means what its kind means.
abbrev pub statement_step : Statement-F Piece (Test × Piece) Piece Piece → Piece
statement_step statement = statement.kind

-- What a kind of statement means.
abbrev pub kind_done : {M : Type 0} → Meaning M → List M → Definitions → Section → StatementKind → Piece
kind_done meaning stack dict section = fold-StatementKind Piece (Test × Piece) Piece Piece (kind_step meaning stack dict section) (arm_step dict section) (group_step section) statement_step

-- What a statement means.
abbrev pub statement_done : {M : Type 0} → Meaning M → List M → Definitions → Section → Statement → Piece
statement_done meaning stack dict section = fold-Statement Piece (Test × Piece) Piece Piece (kind_step meaning stack dict section) (arm_step dict section) (group_step section) statement_step

-- What a block means: its members run as its form says, and it is judged in its group by its own code and actions.
abbrev pub group_done : {M : Type 0} → Meaning M → List M → Definitions → Section → Group → Piece
group_done meaning stack dict section group = λ kind situation. grouped section kind (out-Group group).overrides (formed (out-Group group).form (map (statement_done meaning stack dict section) (out-Group group).statements) situation)

-- What the block of an arm means.
abbrev pub arm_done : {M : Type 0} → Meaning M → List M → Definitions → Section → Arm → Piece
arm_done meaning stack dict section arm = arm_block section (map (statement_done meaning stack dict section) (out-Arm arm).statements)

-- What an arm asks, and what its block means.
abbrev pub arm_asked : {M : Type 0} → Meaning M → List M → Definitions → Section → Arm → Test × Piece
arm_asked meaning stack dict section arm = (asks dict (out-Arm arm).condition, arm_done meaning stack dict section arm)

-- What an `if` means: the conditions are tried in order, up to the first that holds, and the block behind it runs.
abbrev pub if_done : {M : Type 0} → Meaning M → List M → Definitions → Section → List Arm → Piece
if_done meaning stack dict section arms = branched (map (arm_asked meaning stack dict section) arms)

-- What statements mean, one after the other, in a group of a kind.
abbrev pub run_of : {M : Type 0} → Meaning M → List M → Definitions → Section → GroupKind → List Statement → Situation → Outcome
run_of meaning stack dict section kind statements = block_of kind (map (statement_done meaning stack dict section) statements)

-- What a section comes to by the outcome of its statements: the situation, and the code of their children, or its default code
-- where there is none.
abbrev pub judged_in : Section → Outcome → Situation × Code
judged_in section outcome = (outcome.situation, unwrap_or (judged outcome.children) (default_code section))

-- What the statements of a section mean, from its beginning to its code.
abbrev pub section_done : {M : Type 0} → Meaning M → List M → Definitions → Section → List Statement → Situation → Situation × Code
section_done meaning stack dict section statements situation = judged_in section (run_of meaning stack dict section Plain statements (in_scope (begun situation.scope) situation))

-- What the section of a name means, where there is one.
abbrev pub section_of : {M : Type 0} → Meaning M → List M → Definitions → List ServerTree → SectionId → Situation → Situation × Code
section_of meaning stack dict servers id = section_done meaning stack dict id.section (unwrap_or (statements_of servers id) [])

-- An update of a scope came to this scope, and gave this child.
abbrev pub IsUpdate : Definitions → Section → GroupKind → List Line → Scope → Scope → Child → Type 0
IsUpdate dict section kind lines before now child = (done : Bool) × (lines_done dict lines before ≡ (now, done)) × (child ≡ child_of section kind [] (update_code done))

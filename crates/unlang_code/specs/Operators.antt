-- What the members of a block come to, by the block's form, after unlang(5): for the laws of its operators.
use Rattle.std.specs.Prelude.{◌≡◌, List, [], ◌∷◌, length, map, slice_get, Some}
use Rattle.rad_words.specs.declared.codes.Code.{Code}
use Rattle.rad_words.specs.declared.sections.Section.{Section}
use Rattle.rad_tables.specs.declared.group_kind.GroupKind.TheVariants.{Plain, Redundant}
use Rattle.rad_dict.specs.Definitions.{Definitions}
use Rattle.mod_base.specs.Situation.{Situation}
use Rattle.mod_base.specs.Meaning.{Meaning}
use Rattle.unlang_tree.specs.declared.statement.GroupForm.{GroupForm}
use Rattle.unlang_tree.specs.declared.statement.GroupForm.TheVariants as form
use Rattle.unlang_tree.specs.declared.statement.Statement.{Statement}
use Rattle.unlang_code.specs.Judgement.{child_of}
use Rattle.unlang_code.specs.Run.{Outcome, picked, chosen, formed, statement_done}

-- What the members of a block of a form come to together, before the block is judged in its group.
abbrev pub members_done : {M : Type 0} → Meaning M → List M → Definitions → Section → GroupForm → List Statement → Situation → Outcome
members_done meaning stack dict section shape members = formed shape (map (statement_done meaning stack dict section) members)

-- Behind the members before it, a member of a `redundant` block answers this code, by the default actions of such a block.
abbrev pub AnswersBehind : {M : Type 0} → Meaning M → List M → Definitions → Section → List Statement → Statement → Situation → Code → Type 0
AnswersBehind meaning stack dict section before member situation answer =
    (statement_done meaning stack dict section member Redundant (members_done meaning stack dict section form.Redundant before situation).situation).children ≡ child_of section Redundant [] answer ∷ []

-- One of these members is the picked one, and a `load-balance` block of them does what this one does, and nothing else but
-- that one more choice was made.
abbrev pub RunsOne : {M : Type 0} → Meaning M → List M → Definitions → Section → List Statement → Situation → Type 0
RunsOne meaning stack dict section members situation =
    (member : Statement) × (slice_get members (picked situation.scope (length members)) ≡ Some member)
    × (members_done meaning stack dict section form.LoadBalance members situation ≡ chosen (statement_done meaning stack dict section member Plain situation))

-- The arms of an `if`: what begins them, what they ask, and where they may stand. After the manual page unlang(5).
use Rattle.std.specs.Prelude.{ℕ, Bool, true, false, not, ◌&&◌, ◌-◌, List, [], ◌∷◌, ◌++◌, length, slice_get, Option, Some, None, is_some, Result, Ok, Err, if◌then◌else◌}
use Rattle.rad_outside.specs.declared.files.Place.{Place}
use Rattle.rad_conf.specs.declared.tree.Node.{Node}
use Rattle.rad_conf.specs.declared.tree.Item.{out-Item}
use Rattle.rad_conf.specs.declared.tree.Item.TheOpen as level
use Rattle.rad_dict.specs.Definitions.{Definitions}
use Rattle.unlang_cond.specs.declared.fault.CondFault.{CondFault}
use Rattle.unlang_cond.specs.declared.fault.CondFault.TheVariants as told
use Rattle.unlang_cond.specs.Trees.{Tree}
use Rattle.unlang_cond.specs.Conditions.{reading_of}
use Rattle.unlang_tree.specs.declared.fault.TreeFault.{TreeFault}
use Rattle.unlang_tree.specs.declared.fault.TreeFault.TheVariants as fault
use Rattle.unlang_tree.specs.declared.words.ArmWord.{ArmWord}
use Rattle.unlang_tree.specs.declared.words.ArmWord.TheVariants as word
use Rattle.unlang_tree.specs.declared.statement.Arm.{Arm, out-Arm}
use Rattle.unlang_tree.specs.declared.statement.Statement.{Statement}
use Rattle.unlang_tree.specs.declared.statement.StatementKind.{StatementKind, out-StatementKind}
use Rattle.unlang_tree.specs.declared.statement.StatementKind.TheVariants as kinds
use Rattle.unlang_tree.specs.declared.statement.StatementKind.TheOpen as opened
use Rattle.unlang_tree.specs.Words.{arm_named}
use Rattle.unlang_tree.specs.Calls.{kind_of}

-- The word by which a block is an arm.
abbrev pub arm_of : Node → Option ArmWord
arm_of node = arm_named (kind_of node)

-- An `elsif` or an `else` goes on with the `if` before it.
abbrev pub goes_on : ArmWord → Bool
goes_on word.If = false
goes_on word.Elsif = true
goes_on word.Else = true

-- The same of what may be an arm.
abbrev pub follows : Option ArmWord → Bool
follows None = false
follows (Some word) = goes_on word

-- A node goes on with the `if` before it.
abbrev pub is_later_arm : Node → Bool
is_later_arm node = follows (arm_of node)

-- The text that is written as a block's name; none where the block has none.
abbrev pub name_of : Node → Option (List ℕ)
name_of node = elim (out-Item node.item) [
  | level.Pair left operator right ↦ None
  | level.Name word ↦ None
  | level.Block kind None body ↦ None
  | level.Block kind (Some name) body ↦ Some name.text
]

-- What is wrong with a condition, at the place of its block.
abbrev pub condition_fault : Place → CondFault → TreeFault
condition_fault place (told.BadCondition offset) = fault.BadCondition place
condition_fault place (told.UnknownAttr offset) = fault.BadCondition place
condition_fault place (told.BadPattern offset) = fault.BadPattern place
condition_fault place told.NoMemory = fault.NoMemory

-- A condition that was read, or what is wrong with it.
abbrev pub judged_at : Place → Result Tree CondFault → Result (Option Tree) TreeFault
judged_at place (Ok condition) = Ok (Some condition)
judged_at place (Err wrong) = Err (condition_fault place wrong)

-- The condition of a text. Where none is written, that is a fault of the condition.
abbrev pub asked : Definitions → Place → Option (List ℕ) → Result (Option Tree) TreeFault
asked dict place None = Err (fault.BadCondition place)
asked dict place (Some text) = judged_at place (reading_of text dict)

-- What an arm asks: `if` and `elsif` the condition that is their name, `else` nothing. A name behind `else` is passed over.
unfoldable pub condition_at : Definitions → ArmWord → Node → Result (Option Tree) TreeFault
condition_at dict word.If node = asked dict node.place (name_of node)
condition_at dict word.Elsif node = asked dict node.place (name_of node)
condition_at dict word.Else node = Ok None

-- An arm asks for a condition.
abbrev pub asks : Arm → Bool
asks arm = is_some (out-Arm arm).condition

-- The last of the arms asks for a condition.
abbrev pub last_asks : Option Arm → Bool
last_asks None = false
last_asks (Some arm) = asks arm

-- An `elsif` or `else` may follow a statement: an `if` whose last arm asks for a condition.
abbrev pub is_open : Statement → Bool
is_open statement = elim (out-StatementKind statement.kind) [
  | opened.Call call ↦ false
  | opened.Group group ↦ false
  | opened.Return ↦ false
  | opened.Update lines ↦ false
  | opened.If arms ↦ last_asks (slice_get arms (length arms - 1))
]

-- The same of the last of statements.
abbrev pub is_open_behind : Option Statement → Bool
is_open_behind None = false
is_open_behind (Some statement) = is_open statement

abbrev pub is_last_open : List Statement → Bool
is_last_open statements = is_open_behind (slice_get statements (length statements - 1))

-- An `elsif` or `else` is refused where none may stand.
unfoldable pub not_stray : Bool → Node → Result (Unit {0}) TreeFault
not_stray may_go_on node = if is_later_arm node && not may_go_on then Err (fault.UnknownKeyword node.place) else Ok tt

-- The arms of a statement.
abbrev pub arms_of : StatementKind → List Arm
arms_of kind = elim (out-StatementKind kind) [
  | opened.Call call ↦ []
  | opened.Group group ↦ []
  | opened.Return ↦ []
  | opened.Update lines ↦ []
  | opened.If arms ↦ arms
]

-- An `if` with the arms of one that goes on with it.
abbrev pub gone_on : Statement → Statement → Statement
gone_on statement more = record { place = statement.place; kind = kinds.If (arms_of statement.kind ++ arms_of more.kind) }

-- Statements whose last one is an `if`, with the arms of one that goes on with it.
abbrev pub with_last : List Statement → Statement → List Statement
with_last [] more = []
with_last (one ∷ []) more = gone_on one more ∷ []
with_last (one ∷ next ∷ others) more = one ∷ with_last (next ∷ others) more

-- The statements with what a node reads as: one more, or more arms of the last one.
abbrev pub joined_by : Bool → List Statement → Statement → List Statement
joined_by false statements one = statements ++ one ∷ []
joined_by true statements one = with_last statements one

abbrev pub with_next : List Statement → Node → Statement → List Statement
with_next statements node one = joined_by (is_later_arm node) statements one

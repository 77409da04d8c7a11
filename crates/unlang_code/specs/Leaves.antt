-- The statements of a section that do something by themselves: calls of modules, and updates of lists. After unlang(5).
use Rattle.std.specs.Prelude.{List, [], ◌∷◌, ◌++◌, map, slice_get, Option, Some, None}
use Rattle.std.specs.List.{flat_map, AllByRecursion}
use Rattle.rad_words.specs.declared.sections.Section.{Section}
use Rattle.unlang_tree.specs.declared.update.Line.{Line}
use Rattle.rad_value.specs.PairLists.{PairLists}
use Rattle.rad_dict.specs.Definitions.{Definitions}
use Rattle.mod_base.specs.Situation.{Situation}
use Rattle.mod_base.specs.Meaning.{Meaning}
use Rattle.unlang_tree.specs.declared.statement.Call.{Call}
use Rattle.unlang_tree.specs.declared.statement.Statement.{Statement}
use Rattle.unlang_tree.specs.declared.statement.StatementKind.{StatementKind}
use Rattle.unlang_tree.specs.declared.statement.StatementKind.TheOpen.{StatementKind-F, Group-F, Arm-F, Statement-F}
use Rattle.unlang_tree.specs.declared.statement.StatementKind.TheOpen as level
use Rattle.unlang_tree.specs.declared.statement.StatementKind.TheFolds.{fold-StatementKind, fold-Statement}
use Rattle.unlang_code.specs.Updates.{line_done}
use Rattle.unlang_code.specs.Run.{in_scope}

-- A call of a module, or a line of an update.
pub data Leaf : Type 0 where
  Calls : Call → Leaf
  Edits : Line → Leaf

-- The leaves of lists, one after the other.
abbrev pub joined : List (List Leaf) → List Leaf
joined [] = []
joined (leaves ∷ more) = leaves ++ joined more

-- The leaves of a kind of statement, by those of the statements in it.
abbrev pub kind_leaves : StatementKind-F (List Leaf) (List Leaf) (List Leaf) (List Leaf) → List Leaf
kind_leaves (level.Call call) = Calls call ∷ []
kind_leaves (level.Group group) = group
kind_leaves level.Return = []
kind_leaves (level.Update lines) = map Edits lines
kind_leaves (level.If arms) = joined arms

-- The leaves of a block, by those of its statements.
abbrev pub group_leaves : Group-F (List Leaf) (List Leaf) (List Leaf) (List Leaf) → List Leaf
group_leaves group = joined group.statements

-- The leaves of an arm of an `if`, by those of its statements. Its condition is none: it sets captures, and does nothing else.
abbrev pub arm_leaves : Arm-F (List Leaf) (List Leaf) (List Leaf) (List Leaf) → List Leaf
arm_leaves arm = joined arm.statements

-- The leaves of a statement are those of its kind.
abbrev pub statement_leaves : Statement-F (List Leaf) (List Leaf) (List Leaf) (List Leaf) → List Leaf
statement_leaves statement = statement.kind

-- The leaves of a kind of statement, those of the blocks in it too, in order.
abbrev pub leaves_in : StatementKind → List Leaf
leaves_in = fold-StatementKind (List Leaf) (List Leaf) (List Leaf) (List Leaf) kind_leaves arm_leaves group_leaves statement_leaves

-- The leaves of a statement.
abbrev pub leaves_at : Statement → List Leaf
leaves_at = fold-Statement (List Leaf) (List Leaf) (List Leaf) (List Leaf) kind_leaves arm_leaves group_leaves statement_leaves

-- The leaves of statements, in order.
abbrev pub leaves_of : List Statement → List Leaf
leaves_of statements = flat_map leaves_at statements

-- Each leaf of statements is so.
abbrev pub EachLeaf : (Leaf → Type 0) → List Statement → Type 0
EachLeaf is_so statements = AllByRecursion is_so (leaves_of statements)

-- What a module does, where there is one.
abbrev pub module_done : {M : Type 0} → Meaning M → Definitions → Section → Option M → Situation → Situation
module_done meaning dict where_it_stands None situation = situation
module_done meaning dict where_it_stands (Some m) situation = (meaning.does m dict where_it_stands situation).0

-- What a leaf does.
abbrev pub leaf_done : {M : Type 0} → Meaning M → List M → Definitions → Section → Leaf → Situation → Situation
leaf_done meaning stack dict where_it_stands (Calls call) situation = module_done meaning dict where_it_stands (slice_get stack call.instance) situation
leaf_done meaning stack dict where_it_stands (Edits line) situation = in_scope (line_done dict line situation.scope).0 situation

-- A leaf keeps a fact of the three lists, whatever the situation.
abbrev pub LeafKeeps : {M : Type 0} → (PairLists → Type 0) → Meaning M → List M → Definitions → Section → Leaf → Type 0
LeafKeeps fact meaning stack dict section leaf = (situation : Situation) → fact situation.scope.lists → fact (leaf_done meaning stack dict section leaf situation).scope.lists

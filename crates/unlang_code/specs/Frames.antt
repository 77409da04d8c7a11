-- Which attributes of which lists the statements of a section may edit, whatever the situation. After unlang(5), where an
-- update names its list and attribute; the frames of modules are this project's own.
use Rattle.std.specs.Prelude.{Bool, false, ◌&&◌, List, slice_get, Option, Some, None}
use Rattle.std.specs.List.{list_any}
use Rattle.rad_words.specs.declared.attributes.AttrId.{AttrId}
use Rattle.rad_words.specs.Attribute.{same_attr}
use Rattle.rad_value.specs.declared.edits.ListName.{ListName}
use Rattle.rad_value.specs.PairLists.{same_list}
use Rattle.mod_base.specs.Meaning.{Meaning}
use Rattle.unlang_tree.specs.declared.statement.Statement.{Statement}
use Rattle.unlang_tree.specs.declared.update.Line.{Line}
use Rattle.unlang_code.specs.Leaves.{Leaf, Calls, Edits, leaves_of}

-- A module, where there is one, may edit what is in its frame.
abbrev pub module_edits : {M : Type 0} → Meaning M → Option M → ListName → AttrId → Bool
module_edits meaning None list attr = false
module_edits meaning (Some m) list attr = meaning.edits m list attr

-- A line of an update goes to a list.
abbrev pub goes_to : ListName → Line → Bool
goes_to list line = same_list line.list list

-- A line of an update may edit its own attribute in its own list.
abbrev pub line_edits : ListName → AttrId → Line → Bool
line_edits list attr line = same_list line.list list && same_attr attr line.attr.id

-- A call may edit what its module may, and a line of an update its own attribute.
abbrev pub leaf_edits : {M : Type 0} → Meaning M → List M → ListName → AttrId → Leaf → Bool
leaf_edits meaning stack list attr (Calls call) = module_edits meaning (slice_get stack call.instance) list attr
leaf_edits meaning stack list attr (Edits line) = line_edits list attr line

-- Statements may edit what one of them may, those of the blocks in them too.
abbrev pub edits_of : {M : Type 0} → Meaning M → List M → List Statement → ListName → AttrId → Bool
edits_of meaning stack statements list attr = list_any (leaf_edits meaning stack list attr) (leaves_of statements)

-- Calls of policies: a policy's statements are laid out where it is called. After the manual page unlang(5).
use Rattle.std.specs.Prelude.{ℕ, Bool, true, false, not, ◌&&◌, ◌||◌, List, Option, None, is_some, Result, Ok, if◌then◌else◌}
use Rattle.std.specs.List.{list_all}
use Rattle.rad_conf.specs.declared.tree.Word.{Word}
use Rattle.rad_conf.specs.declared.tree.Node.{Node}
use Rattle.rad_conf.specs.declared.tree.Item.{out-Item}
use Rattle.rad_conf.specs.declared.tree.Item.TheOpen as level
use Rattle.rad_words.specs.declared.sections.Section.{Section}
use Rattle.unlang_tree.specs.declared.fault.TreeFault.{TreeFault}
use Rattle.unlang_tree.specs.Readings.{one_deeper}
use Rattle.unlang_tree.specs.Words.{is_word_statement, is_keyword}
use Rattle.unlang_tree.specs.Calls.{policy_for, called_name}
use Rattle.unlang_tree.specs.Statements.{is_pair}

-- A block is a call: no keyword and no name, and only pairs in it.
abbrev pub is_call_block : List ℕ → Option Word → List Node → Bool
is_call_block kind name body = not (is_keyword kind || is_some name) && list_all is_pair body

-- The policy that a node calls in a section, if it calls one. Policies go before instances.
abbrev pub policy_called : List Node → Section → Node → Option Node
policy_called root section node = elim (out-Item node.item) [
  | level.Pair left operator right ↦ None
  | level.Name word ↦ if is_word_statement word.text then None else policy_for root section (called_name word.text)
  | level.Block kind name body ↦ if is_call_block kind.text name body then policy_for root section (called_name kind.text) else None
]

-- Whether a call is a block, with actions of its own.
abbrev pub is_braced : Node → Bool
is_braced node = elim (out-Item node.item) [
  | level.Pair left operator right ↦ false
  | level.Name word ↦ false
  | level.Block kind name body ↦ true
]

-- A block is one block more within the open ones; a word alone isn't.
unfoldable pub braces_at : Node → ℕ → Result (Unit {0}) TreeFault
braces_at node levels = if is_braced node then one_deeper levels node.place else Ok tt

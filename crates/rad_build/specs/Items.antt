-- The items of a configuration by their form. After the manual page radiusd.conf(5).
use Rattle.std.specs.Prelude.{ℕ, Bool, false, ◌||◌, List, [], ◌∷◌, find, Option, Some, None, codes, if◌then◌else◌}
use Rattle.std.specs.Str.{bytes_eq, str_eq_ignore_ascii_case}
use Rattle.rad_conf.specs.declared.tree.Node.{Node}
use Rattle.rad_conf.specs.declared.tree.Item.{out-Item}
use Rattle.rad_conf.specs.declared.tree.Item.TheOpen as level

-- `=` and `:=`
abbrev pub is_assignment : List ℕ → Bool
is_assignment operator = bytes_eq operator (codes "=") || bytes_eq operator (codes ":=")

-- A pair by its name, its operator and its value.
abbrev pub pair_of : Node → Option (List ℕ × List ℕ × List ℕ)
pair_of node = elim (out-Item node.item) [
  | level.Pair left operator right ↦ Some (left.text, operator, right.text)
  | level.Name word ↦ None
  | level.Block kind name body ↦ None
]

-- What a setting is set to by `=` or `:=`, where its value has the form.
abbrev pub set_by : {A : Type 0} → List ℕ → Option A → Option A
set_by operator value = if is_assignment operator then value else None

-- The name and the value of an item `name = value` or `name := value`.
abbrev pub setting_of : Node → Option (List ℕ × List ℕ)
setting_of node = elim (out-Item node.item) [
  | level.Pair left operator right ↦ if is_assignment operator then Some (left.text, right.text) else None
  | level.Name word ↦ None
  | level.Block kind name body ↦ None
]

-- Whether an item is a pair of this name.
abbrev pub is_pair_of : List ℕ → Node → Bool
is_pair_of wanted node = elim (out-Item node.item) [
  | level.Pair left operator right ↦ bytes_eq left.text wanted
  | level.Name word ↦ false
  | level.Block kind name body ↦ false
]

-- The first pair of this name among items. The others aren't looked at.
abbrev pub pair_named : List ℕ → List Node → Option Node
pair_named wanted nodes = find (is_pair_of wanted) nodes

-- The nodes of a block of this kind, `kind { .. }` or `kind NAME { .. }`; none of another item.
abbrev pub nodes_of : List ℕ → Node → List Node
nodes_of wanted node = elim (out-Item node.item) [
  | level.Pair left operator right ↦ []
  | level.Name word ↦ []
  | level.Block kind name body ↦ if bytes_eq kind.text wanted then body else []
]

-- Whether an item is a block of this kind, `kind { .. }` or `kind NAME { .. }`.
abbrev pub is_block : List ℕ → Node → Bool
is_block wanted node = elim (out-Item node.item) [
  | level.Pair left operator right ↦ false
  | level.Name word ↦ false
  | level.Block kind name body ↦ bytes_eq kind.text wanted
]

-- Whether an item is a block of this kind, in any case of its ASCII letters, as sections are named.
abbrev pub is_section : List ℕ → Node → Bool
is_section wanted node = elim (out-Item node.item) [
  | level.Pair left operator right ↦ false
  | level.Name word ↦ false
  | level.Block kind name body ↦ str_eq_ignore_ascii_case kind.text wanted
]

-- The kind of a block, which is a policy's name among the items of a block `policy`; none of another item.
abbrev pub kind_of : Node → Option (List ℕ)
kind_of node = elim (out-Item node.item) [
  | level.Pair left operator right ↦ None
  | level.Name word ↦ None
  | level.Block kind name body ↦ Some kind.text
]

-- The name and the nodes of a block that has a name.
abbrev pub named_block : Node → Option (List ℕ × List Node)
named_block node = elim (out-Item node.item) [
  | level.Pair left operator right ↦ None
  | level.Name word ↦ None
  | level.Block kind None body ↦ None
  | level.Block kind (Some name) body ↦ Some (name.text, body)
]

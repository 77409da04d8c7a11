-- What a site's realms are, in the words of its blocks. After FreeRADIUS' proxy.conf.
use Rattle.std.specs.Prelude.{ℕ, ◌≡◌, Bool, false, List, Option, None, codes}
use Rattle.std.specs.List.{list_any}
use Rattle.std.specs.Option.{option_map}
use Rattle.std.specs.Str.{bytes_eq}
use Rattle.rad_conf.specs.declared.tree.Node.{Node}
use Rattle.rad_conf.specs.declared.tree.Item.{out-Item}
use Rattle.rad_conf.specs.declared.tree.Item.TheOpen as level
use Rattle.rad_conf.specs.Tree.{Layer}
use Rattle.mod_realm.specs.declared.realms.Realm.{Realm}
use Rattle.mod_realm.specs.Realms.{realm_of}
use Rattle.rad_build.specs.Items.{is_block, named_block}

-- An item is the name alone `nostrip`.
abbrev pub is_nostrip_item : Layer → Bool
is_nostrip_item (level.Pair left operator right) = false
is_nostrip_item (level.Name word) = bytes_eq word.text (codes "nostrip")
is_nostrip_item (level.Block kind name body) = false

-- A node of a block is.
abbrev pub is_nostrip : Node → Bool
is_nostrip node = is_nostrip_item (out-Item node.item)

-- The realm of a name and of the nodes of its block: names stay whole where `nostrip` is among them.
abbrev pub realm_by : List ℕ × List Node → Realm
realm_by block = record { name = block.0; nostrip = list_any is_nostrip block.1 }

-- The realm that a block says there is, where it has a name.
abbrev pub said_of : Node → Option Realm
said_of node = option_map realm_by (named_block node)

-- A block `realm NAME { .. }`.
abbrev pub is_realm_block : Node → Bool
is_realm_block = is_block (codes "realm")

-- A realm has another name, case aside, than those that stand.
abbrev pub HasAnotherName : List Realm → Realm → Type 0
HasAnotherName known one = realm_of known one.name ≡ None

-- One level of a tree. This project's own.
use Rattle.std.specs.Prelude.{List, Option, Some, None}
use Rattle.rad_conf.specs.declared.tree.Node.{Node}
use Rattle.rad_conf.specs.declared.tree.Item.{Item, out-Item}
use Rattle.rad_conf.specs.declared.tree.Item.TheOpen as level

-- An item as `out-Item` opens it, with the list of a block's nodes.
abbrev pub Layer : Type 0
Layer = level.Item-F Item Node

-- The nodes of a block that is opened.
abbrev pub layer_body : Layer → Option (List Node)
layer_body (level.Pair left operator right) = None
layer_body (level.Name word) = None
layer_body (level.Block kind name body) = Some body

-- The nodes of a block.
abbrev pub body_of : Item → Option (List Node)
body_of item = layer_body (out-Item item)

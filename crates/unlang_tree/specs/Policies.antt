-- The policies of a whole configuration: its servers, in order, each with its sections. After the manual page radiusd.conf(5).
use Rattle.std.specs.Prelude.{ℕ, List, [], ◌∷◌, ◌++◌, Bool, true, false, Option, Some, None, Result, Ok, codes, if◌then◌else◌}
use Rattle.std.specs.Str.{bytes_eq}
use Rattle.rad_conf.specs.declared.tree.Node.{Node}
use Rattle.rad_conf.specs.declared.tree.Item.{out-Item}
use Rattle.rad_conf.specs.declared.tree.Item.TheOpen as level
use Rattle.rad_dict.specs.Definitions.{Definitions}
use Rattle.rad_text.specs.Read.{◌>>=◌}
use Rattle.unlang_tree.specs.declared.fault.TreeFault.{TreeFault}
use Rattle.unlang_tree.specs.declared.fault.TreeFault.TheVariants as fault
use Rattle.unlang_tree.specs.declared.policies.ServerTree.{ServerTree}
use Rattle.unlang_tree.specs.Instances.{Instance}
use Rattle.unlang_tree.specs.Sites.{Site}
use Rattle.unlang_tree.specs.Readings.{after_each}
use Rattle.unlang_tree.specs.Sections.{server_of}

-- The name and the nodes of a server, `server NAME { .. }`. A block without a name is none.
abbrev pub server_block : Node → Option (List ℕ × List Node)
server_block node = elim (out-Item node.item) [
  | level.Pair left operator right ↦ None
  | level.Name word ↦ None
  | level.Block kind None body ↦ None
  | level.Block kind (Some name) body ↦ if bytes_eq kind.text (codes "server") then Some (name.text, body) else None
]

-- The servers with that of one more node. What is no server is passed over.
unfoldable pub with_server : Site → List ServerTree → Node → Result (List ServerTree) TreeFault
with_server site servers node = elim (server_block node) [
  | None ↦ Ok servers
  | Some block ↦ server_of site block.0 block.1 >>= λ server. Ok (servers ++ server ∷ [])
]

-- The servers of a configuration with this dictionary and these instances, or its first fault in reading order.
abbrev pub servers_of : Site → Result (List ServerTree) TreeFault
servers_of site = after_each (with_server site) [] site.root

-- The policies of a configuration's nodes, with this dictionary and these instances.
abbrev pub policies_of : List Node → Definitions → List Instance → Result (List ServerTree) TreeFault
policies_of root dict instances = servers_of (record { root = root; dict = dict; instances = instances })

-- Every fault but want of memory says something of the configuration.
abbrev pub says : TreeFault → Bool
says (fault.UnknownModule place word) = true
says (fault.NoSuchMethod place) = true
says (fault.UnknownKeyword place) = true
says (fault.BadAction place) = true
says (fault.BadUpdate place) = true
says (fault.BadCondition place) = true
says (fault.BadPattern place) = true
says (fault.BadExpansion place) = true
says (fault.PolicyLoop place) = true
says (fault.TooDeep place) = true
says (fault.TooMany place) = true
says (fault.NotBuilt place) = true
says fault.NoMemory = false

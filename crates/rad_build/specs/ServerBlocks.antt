-- The virtual servers of a configuration, `server NAME { listen { .. } sections }`: their names, which sections they have, and
-- their listeners, with the names of the policies, `policy { NAME { .. } }`, among them. What stands in sections is read behind
-- them. After the manual page radiusd.conf(5).
use Rattle.std.specs.Prelude.{ℕ, Bool, true, false, ◌&&◌, ◌||◌, List, [], ◌∷◌, ◌++◌, length, nat_lt, Option, Some, None, Result, Ok, codes, if◌then◌else◌}
use Rattle.std.specs.List.{list_any}
use Rattle.std.specs.Option.{is_none}
use Rattle.std.specs.Str.{bytes_eq}
use Rattle.rad_outside.specs.declared.files.Place.{Place}
use Rattle.rad_outside.specs.declared.listen.ListenKind.{ListenKind}
use Rattle.rad_outside.specs.declared.listen.ListenKind.TheVariants as listen
use Rattle.rad_conf.specs.declared.tree.Node.{Node}
use Rattle.rad_build.specs.declared.fault.BuildFault.{BuildFault}
use Rattle.rad_build.specs.declared.listen.Bound.{Bound}
use Rattle.rad_build.specs.declared.servers.Listener.{Listener}
use Rattle.rad_build.specs.declared.servers.Servers.{Servers}
use Rattle.rad_build.specs.Nodes.{◌>>=◌, refused, bad_setting, formed, after_each}
use Rattle.rad_build.specs.Items.{is_block, is_section, nodes_of, kind_of, named_block}
use Rattle.rad_build.specs.ListenBlock.{listener_of}

-- Before the first item there are no names and no listener.
abbrev pub no_servers : Servers
no_servers = record { names = []; policies = []; sections = []; listener = None }

-- A server of this name stands.
abbrev pub has_name : List ℕ → List (List ℕ) → Bool
has_name name names = list_any (λ (one : List ℕ). bytes_eq one name) names

-- Listeners of this kind are built, each site having one.
abbrev pub is_built : ListenKind → Bool
is_built listen.Auth = true
is_built listen.Acct = false
is_built listen.Control = false

-- The servers with a listener of the server of a name. A second one, and one that isn't built, is refused at its block.
unfoldable pub and_listener : Servers → List ℕ → Place → Bound → Result Servers BuildFault
and_listener known name place bound =
    if is_built bound.kind && is_none known.listener then Ok (record known { listener = Some (record { server = name; at = bound.at }) })
    else refused place

-- Sections that no request runs yet: they are refused, so that none is passed over in silence.
abbrev pub is_later : Node → Bool
is_later node = is_section (codes "session") node || is_section (codes "preacct") node || is_section (codes "accounting") node

-- The servers with the listener of a block of the server of a name.
abbrev pub with_listen : List ℕ → Servers → Node → Result Servers BuildFault
with_listen name known node = listener_of node.place (nodes_of (codes "listen") node) >>= λ bound. and_listener known name node.place bound

-- The section that an item is, by its word; none of another item.
abbrev pub section_of : Node → Option (List ℕ)
section_of node =
    if is_section (codes "authorize") node then Some (codes "authorize")
    else (if is_section (codes "authenticate") node then Some (codes "authenticate")
    else (if is_section (codes "post-auth") node then Some (codes "post-auth") else None))

-- The servers with one more section of the last server. A second one of a kind is refused by its word.
unfoldable pub and_section : Servers → Place → List ℕ → Result Servers BuildFault
and_section known place word =
    if has_name word known.sections then bad_setting place word else Ok (record known { sections = known.sections ++ word ∷ [] })

-- The servers after one more item of the server of a name that is no section: one that isn't `listen` is passed over.
abbrev pub with_other : List ℕ → Servers → Node → Result Servers BuildFault
with_other name known node = if is_block (codes "listen") node then with_listen name known node else Ok known

-- The servers after one more item of the server of a name that is this section or none.
abbrev pub with_part : Option (List ℕ) → List ℕ → Servers → Node → Result Servers BuildFault
with_part (Some word) name known node = and_section known node.place word
with_part None name known node = with_other name known node

-- The servers after one more item of the server of a name: a section that isn't run yet is refused, and so is a second one of a
-- kind; an item that is neither a section nor `listen` is passed over.
unfoldable pub with_item : List ℕ → Servers → Node → Result Servers BuildFault
with_item name known node = if is_later node then refused node.place else with_part (section_of node) name known node

-- The servers with one more name, and without a section of it.
abbrev pub and_name : Servers → List ℕ → Servers
and_name known name = record known { names = known.names ++ name ∷ []; sections = [] }

-- There may be 64 servers. One more is refused by its name, behind what stands in its block.
unfoldable pub few_enough : Place → List ℕ → Servers → Result Servers BuildFault
few_enough place name known = if nat_lt 64 (length known.names) then bad_setting place name else Ok known

-- The servers with that of a name and items. A second one of a name is refused by it.
unfoldable pub with_named : Servers → Place → List ℕ × List Node → Result Servers BuildFault
with_named known place block =
    if has_name block.0 known.names then bad_setting place block.0
    else (after_each (with_item block.0) (and_name known block.0) block.1 >>= λ next. few_enough place block.0 next)

-- The servers, with the name of one more policy. A second one of a name is refused by it. Names are exact.
unfoldable pub and_policy : Servers → Place → List ℕ → Result Servers BuildFault
and_policy known place name =
    if has_name name known.policies then bad_setting place name else Ok (record known { policies = known.policies ++ name ∷ [] })

-- The same after one more item of a block `policy`: one that is no block is passed over.
unfoldable pub with_policy : Servers → Node → Result Servers BuildFault
with_policy known node = elim (kind_of node) [ None ↦ Ok known | Some name ↦ and_policy known node.place name ]

-- The servers after one more item of the top: one that is neither a server nor a block of policies is passed over.
unfoldable pub with_server : Servers → Node → Result Servers BuildFault
with_server known node =
    if is_block (codes "policy") node then after_each with_policy known (nodes_of (codes "policy") node)
    else (if is_block (codes "server") node
    then (formed node.place (codes "server") (named_block node) >>= λ block. with_named known node.place block)
    else Ok known)

-- The servers of a configuration.
abbrev pub servers_in : List Node → Result Servers BuildFault
servers_in nodes = after_each with_server no_servers nodes

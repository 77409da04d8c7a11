-- A client of the configuration, `client NAME { ipaddr = a.b.c.d/bits, secret = TEXT }`. After the manual page radiusd.conf(5).
use Rattle.std.specs.Prelude.{ℕ, ◌≤◌, Bool, ◌&&◌, ◌||◌, IfSome, List, Option, Some, None, Result, Ok, length, nat_lt, codes, if◌then◌else◌}
use Rattle.std.specs.Option.{is_none}
use Rattle.std.specs.Str.{bytes_eq}
use Rattle.rad_outside.specs.declared.files.Place.{Place}
use Rattle.rad_conf.specs.declared.tree.Node.{Node}
use Rattle.rad_packet.specs.declared.client.Client.{Client}
use Rattle.rad_clients.specs.Written.{network_of}
use Rattle.rad_build.specs.declared.fault.BuildFault.{BuildFault}
use Rattle.rad_build.specs.declared.client.Settings.{Settings}
use Rattle.rad_build.specs.Nodes.{◌>>=◌, refused, formed, after_each}
use Rattle.rad_build.specs.Items.{pair_of, set_by, named_block}

-- The secret that a text is, where it has 1 to 128 octets.
abbrev pub secret_value : List ℕ → Option (List ℕ)
secret_value text = if nat_lt 0 (length text) && nat_lt (length text) 129 then Some text else None

-- Before its first item nothing is known of a client.
abbrev pub no_settings : Settings
no_settings = record { network = None; secret = None }

-- What is known of a network has a prefix of at most 32 bits.
abbrev pub HasPrefix : Settings → Type 0
HasPrefix known = IfSome known.network (λ network. network.bits ≤ 32)

-- Settings of a client that aren't built: addresses of IPv6, and a virtual server of its own.
abbrev pub is_unbuilt : List ℕ → Bool
is_unbuilt name = bytes_eq name (codes "ipv6addr") || bytes_eq name (codes "virtual_server")

-- What is known after one more pair. The first `ipaddr` and the first `secret` count; other settings are passed over.
unfoldable pub with_pair : Settings → Place → List ℕ → List ℕ → List ℕ → Result Settings BuildFault
with_pair known place name operator value =
    if bytes_eq name (codes "ipaddr") && is_none known.network
    then (formed place name (set_by operator (network_of value)) >>= λ network. Ok (record known { network = Some network }))
    else (if bytes_eq name (codes "secret") && is_none known.secret
    then (formed place name (set_by operator (secret_value value)) >>= λ secret. Ok (record known { secret = Some secret }))
    else (if is_unbuilt name then refused place else Ok known))

-- What is known after one more item: one that is no pair is passed over.
abbrev pub with_setting : Settings → Node → Result Settings BuildFault
with_setting known node = elim (pair_of node) [ None ↦ Ok known | Some pair ↦ with_pair known node.place pair.0 pair.1 pair.2 ]

-- The client of a block: its name first, then its settings in their order, and then those that are missing.
unfoldable pub client_at : Node → Result Client BuildFault
client_at node = do
  block ← formed node.place (codes "client") (named_block node)
  known ← after_each with_setting no_settings block.1
  network ← formed node.place (codes "ipaddr") known.network
  secret ← formed node.place (codes "secret") known.secret
  Ok (record { name = block.0; addr = network.addr; bits = network.bits; secret = secret })

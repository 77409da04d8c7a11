-- A listener of a virtual server, `listen { type = auth, ipaddr = a.b.c.d, port = N }`. After the manual page radiusd.conf(5).
use Rattle.std.specs.Prelude.{ℕ, Bool, true, false, ◌&&◌, ◌==◌, List, Option, Some, None, unwrap_or, Result, Ok, codes, if◌then◌else◌}
use Rattle.std.specs.Option.{is_none}
use Rattle.std.specs.Str.{bytes_eq}
use Rattle.rad_outside.specs.declared.files.Place.{Place}
use Rattle.rad_outside.specs.declared.listen.ListenKind.{ListenKind}
use Rattle.rad_outside.specs.declared.listen.ListenKind.TheVariants as listen
use Rattle.rad_conf.specs.declared.tree.Node.{Node}
use Rattle.rad_build.specs.declared.fault.BuildFault.{BuildFault}
use Rattle.rad_build.specs.declared.listen.Known.{Known}
use Rattle.rad_build.specs.declared.listen.Bound.{Bound}
use Rattle.rad_build.specs.Nodes.{◌>>=◌, formed, after_each}
use Rattle.rad_build.specs.Items.{pair_of, set_by}
use Rattle.rad_build.specs.Numbers.{port_of, bound_address}

-- What comes in on a listener of a type.
unfoldable pub kind_of : List ℕ → Option ListenKind
kind_of text =
    if bytes_eq text (codes "auth") then Some listen.Auth
    else (if bytes_eq text (codes "acct") then Some listen.Acct
    else None)

-- Before its first pair nothing is known of a listener.
abbrev pub nothing : Known
nothing = record { kind = None; addr = None; port = None }

-- What is known after one more pair. The first of each setting counts; others are passed over.
unfoldable pub with_pair : Known → Place → List ℕ → List ℕ → List ℕ → Result Known BuildFault
with_pair known place name operator value =
    if bytes_eq name (codes "type") && is_none known.kind
    then (formed place name (set_by operator (kind_of value)) >>= λ kind. Ok (record known { kind = Some kind }))
    else (if bytes_eq name (codes "ipaddr") && is_none known.addr
    then (formed place name (set_by operator (bound_address value)) >>= λ addr. Ok (record known { addr = Some addr }))
    else (if bytes_eq name (codes "port") && is_none known.port
    then (formed place name (set_by operator (port_of value)) >>= λ port. Ok (record known { port = Some port }))
    else Ok known))

-- What is known after one more item: one that is no pair is passed over.
abbrev pub with_item : Known → Node → Result Known BuildFault
with_item known node = elim (pair_of node) [ None ↦ Ok known | Some pair ↦ with_pair known node.place pair.0 pair.1 pair.2 ]

-- The port of a kind of listeners (RFC 2865 section 3, RFC 2866 section 3). The control wire has none of its own.
abbrev pub usual_port : ListenKind → ℕ
usual_port listen.Auth = 1812
usual_port listen.Acct = 1813
usual_port listen.Control = 0

-- The port that is written; 0, or none, stands for the usual one.
abbrev pub port_for : ListenKind → Option ℕ → ℕ
port_for kind None = usual_port kind
port_for kind (Some port) = if port == 0 then usual_port kind else port

-- Where a listener of what is known is bound: by default to every address.
abbrev pub bound_by : ListenKind → Known → Bound
bound_by kind known = record { kind = kind; at = record { addr = unwrap_or known.addr 0; port = port_for kind known.port } }

-- The listener of the items of a block at this place, whose type may not be missing.
unfoldable pub listener_of : Place → List Node → Result Bound BuildFault
listener_of place items = do
  known ← after_each with_item nothing items
  kind ← formed place (codes "type") known.kind
  Ok (bound_by kind known)

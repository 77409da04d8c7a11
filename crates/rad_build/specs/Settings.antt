-- The settings of a whole site: `cleanup_delay`, `max_requests` and `session_log` at the top, and `start_servers` in a block
-- `thread pool` or at the top. After the manual page radiusd.conf(5); the ranges are this project's own.
use Rattle.std.specs.Prelude.{ℕ, Bool, not, ◌&&◌, List, length, nat_lt, Option, Some, None, unwrap_or, Result, Ok, codes, if◌then◌else◌}
use Rattle.std.specs.List.{list_any}
use Rattle.std.specs.Option.{is_none, is_some}
use Rattle.std.specs.Str.{bytes_eq, str_eq_ignore_ascii_case}
use Rattle.rad_outside.specs.declared.files.Place.{Place}
use Rattle.rad_conf.specs.declared.tree.Node.{Node}
use Rattle.rad_conf.specs.declared.tree.Item.{out-Item}
use Rattle.rad_conf.specs.declared.tree.Item.TheOpen as level
use Rattle.rad_build.specs.declared.fault.BuildFault.{BuildFault}
use Rattle.rad_build.specs.declared.settings.Settings.{Settings}
use Rattle.rad_build.specs.declared.top_settings.Known.{Known}
use Rattle.rad_build.specs.Nodes.{◌>>=◌, formed, after_each}
use Rattle.rad_build.specs.Items.{pair_of, set_by, pair_named}
use Rattle.rad_build.specs.Numbers.{number_between}

-- Before its first item nothing is known of a configuration's settings.
abbrev pub nothing : Known
nothing = record { cleanup_delay = None; max_requests = None; start_servers = None; session_log = None }

-- The path of a log, which isn't empty.
abbrev pub log_path : List ℕ → Option (List ℕ)
log_path text = if nat_lt 0 (length text) then Some text else None

-- What is known after a setting `start_servers`, of which the first counts.
unfoldable pub with_workers : Known → Place → List ℕ → List ℕ → Result Known BuildFault
with_workers known place operator value =
    if is_none known.start_servers
    then (formed place (codes "start_servers") (set_by operator (number_between 1 64 value)) >>= λ count. Ok (record known { start_servers = Some count }))
    else Ok known

-- What is known after one more pair of the top. The first of each setting counts; where a thread pool has `start_servers` that of
-- the top isn't looked at.
unfoldable pub with_pair : Bool → Known → Place → List ℕ → List ℕ → List ℕ → Result Known BuildFault
with_pair pooled known place name operator value =
    if bytes_eq name (codes "cleanup_delay") && is_none known.cleanup_delay
    then (formed place (codes "cleanup_delay") (set_by operator (number_between 0 3600 value)) >>= λ seconds. Ok (record known { cleanup_delay = Some seconds }))
    else (if bytes_eq name (codes "max_requests") && is_none known.max_requests
    then (formed place (codes "max_requests") (set_by operator (number_between 1 65536 value)) >>= λ count. Ok (record known { max_requests = Some count }))
    else (if bytes_eq name (codes "session_log") && is_none known.session_log
    then (formed place (codes "session_log") (set_by operator (log_path value)) >>= λ path. Ok (record known { session_log = Some path }))
    else (if bytes_eq name (codes "start_servers") && not pooled
    then with_workers known place operator value
    else Ok known)))

-- The first setting `start_servers` of a block `thread pool`.
abbrev pub pool_setting : Node → Option Node
pool_setting node = elim (out-Item node.item) [
  | level.Pair left operator right ↦ None
  | level.Name word ↦ None
  | level.Block kind None body ↦ None
  | level.Block kind (Some name) body ↦
      if bytes_eq kind.text (codes "thread") && str_eq_ignore_ascii_case name.text (codes "pool") then pair_named (codes "start_servers") body else None
]

-- Whether an item is a thread pool that has it.
abbrev pub is_pooled : Node → Bool
is_pooled node = is_some (pool_setting node)

-- What is known after the setting of a thread pool, where it has one.
unfoldable pub with_pool : Known → Option Node → Result Known BuildFault
with_pool known None = Ok known
with_pool known (Some setting) = elim (pair_of setting) [ None ↦ Ok known | Some pair ↦ with_workers known setting.place pair.1 pair.2 ]

-- What is known after one more item of the top: a pair, or a block `thread pool`. Others are passed over.
unfoldable pub with_item : Bool → Known → Node → Result Known BuildFault
with_item pooled known node = elim (pair_of node) [
  | Some pair ↦ with_pair pooled known node.place pair.0 pair.1 pair.2
  | None ↦ with_pool known (pool_setting node)
]

-- The settings that are known, and the usual ones where they aren't.
abbrev pub settings_by : Known → Settings
settings_by known = record {
  cleanup_delay = unwrap_or known.cleanup_delay 5;
  max_requests = unwrap_or known.max_requests 16384;
  start_servers = unwrap_or known.start_servers 5;
  session_log = unwrap_or known.session_log (codes "radutmp.log");
}

-- The settings of a whole configuration.
unfoldable pub settings_in : List Node → Result Settings BuildFault
settings_in nodes = after_each (with_item (list_any is_pooled nodes)) nothing nodes >>= λ known. Ok (settings_by known)

-- The state that a core keeps. This project's own.
use Rattle.std.specs.Prelude.{ℕ, List}
use Rattle.std.specs.Option.{option_map}
use Rattle.std.specs.Arc.{arc_value}
use Rattle.rad_core.specs.declared.machine.Core.{Core}
use Rattle.rad_core.specs.State.{ServerState}

-- The state.
abbrev pub state_of : {P L : Type 0} → Core P L → ServerState P
state_of core = record {
  present = option_map arc_value core.present;
  generations = core.generations;
  moment = core.moment;
  is_stopped = core.is_stopped;
  entries = core.entries;
  table = core.table;
}

-- The session log.
abbrev pub log_of : {P L : Type 0} → Core P L → L
log_of core = core.log

-- What the histories of a core go out from: its session log and the path of that. No entry changes them yet.
abbrev pub origin_of : {P L : Type 0} → Core P L → L × List ℕ
origin_of core = (core.log, core.path)

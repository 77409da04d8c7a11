-- A sink in memory: what it tells, its count of faults and the writes that are to fail. This project's own.
use Rattle.std.specs.Prelude.{ℕ, ◌++◌, List, Option, None, Result, Ok, Err, if◌then◌else◌}
use Rattle.std.specs.Option.{option_map}
use Rattle.rad_edge.specs.Memory.{risen}
use Rattle.rad_edge.specs.Failing.{Plan, fails_next, called}
use Rattle.rad_outside.specs.declared.fault.Failed.{Failed}

-- What it tells, its count of faults, and which writes are to fail.
pub record SinkState : Type 0 where
  pub told : Option (List ℕ)
  pub faults : ℕ
  pub writes : Plan ℕ

-- What the sink is after a write, which adds the octets. A failure that was planned writes nothing. Any other is want of memory for the record, and the sink tells nothing from then on.
abbrev pub after_write : SinkState → List ℕ → Result (Unit {0}) Failed → SinkState
after_write sink octets (Ok _) = record {
  told = option_map (λ told. told ++ octets) sink.told;
  faults = sink.faults;
  writes = called sink.writes;
}
after_write sink octets (Err _) = record {
  told = if fails_next sink.writes then sink.told else None;
  faults = risen sink.faults;
  writes = called sink.writes;
}

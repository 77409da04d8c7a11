-- How a policy's Rust values are seen in the history. This project's own.
use Rattle.std.specs.Prelude.{ℕ, ◌≤◌, List, Bool, length}
use Rattle.std.specs.Arc.{arc_value}
use Rattle.rad_policy.specs.declared.arrival.Arrival.{Arrival}
use Rattle.rad_policy.specs.declared.arrival.Arrived.{Arrived}
use Rattle.rad_policy.specs.declared.outcome.Outcome.{Outcome}
use Rattle.rad_policy.specs.declared.outcome.Outcome.TheVariants as outcome
use Rattle.rad_policy.specs.declared.ending.Ending.{Ending}
use Rattle.rad_policy.specs.declared.ending.Ending.TheVariants.{Sent, Withheld, OutOfMemory}
use Rattle.rad_policy.specs.Policy.{Meaning, GivesEnding}

-- An arrival without where its octets lie.
abbrev pub arrived_of : Arrival → Arrived
arrived_of arrival = record {
  worker = arrival.worker;
  listener = arrival.listener;
  kind = arrival.kind;
  server = arrival.server.now;
  from = arrival.from;
  bytes = arrival.bytes.now;
  now = arrival.now;
}

-- An outcome without where its octets lie.
abbrev pub ending_seen : Outcome → Ending
ending_seen (outcome.Sent octets) = Sent (arc_value octets)
ending_seen outcome.Withheld = Withheld
ending_seen outcome.NoMemory = OutOfMemory

-- The policy gives this outcome for an arrival, with this luck word and some answers of devices.
abbrev pub GivesOutcome : {P F : Type 0} → Meaning P F → P → Arrived → ℕ → ℕ → Outcome → Type 0
GivesOutcome meaning generation arrival moment luck outcome =
    (answers : List Bool)
    × GivesEnding meaning generation arrival moment luck answers (ending_seen outcome)

-- A reply has at most 4,096 octets.
abbrev pub FitsDatagram : Outcome → Type 0
FitsDatagram (outcome.Sent octets) = length (arc_value octets) ≤ 4096
FitsDatagram outcome.Withheld = Unit {0}
FitsDatagram outcome.NoMemory = Unit {0}

-- How the core's Rust values are seen in the history. This project's own.
use Rattle.std.specs.Prelude.{ℕ, ◌≡◌, ◌≤◌, List, take, Some, Result, Ok, Err}
use Rattle.std.specs.Arc.{arc_value}
use Rattle.std.specs.declared.sync.Arc.{Arc}
use Rattle.std.specs.declared.alloc.Global.{Global}
use Rattle.rad_outside.specs.Moments.{IsInTime}
use Rattle.rad_policy.specs.declared.arrival.Arrived.{Arrived}
use Rattle.rad_core.specs.declared.started.Started.{Started}
use Rattle.rad_core.specs.declared.started.Ticket.{Ticket}
use Rattle.rad_core.specs.declared.started.Started.TheVariants as started
use Rattle.rad_policy.specs.Policy.{Meaning}
use Rattle.rad_core.specs.State.{ServerState, with_request}
use Rattle.rad_policy.specs.declared.ending.Ending.{Ending}
use Rattle.rad_core.specs.declared.started.StartAnswer.{StartAnswer}
use Rattle.rad_core.specs.declared.started.StartAnswer.TheVariants.{Dropped, Repeat, Busy, Full, Fresh, NoRoom}
use Rattle.rad_core.specs.Step.{MayFinish}

-- A start's answer, with the buffer that it left: of a ticket its place, and of a repeat the octets at the buffer's front.
abbrev pub answer_seen : {P : Type 0} → Started P → List ℕ → StartAnswer
answer_seen (started.Dropped cause) buffer = Dropped cause
answer_seen (started.Repeat count) buffer = Repeat (take count buffer)
answer_seen (started.Busy place) buffer = Busy place
answer_seen (started.Full count) buffer = Full count
answer_seen (started.Fresh ticket) buffer = Fresh ticket.place
answer_seen started.NoMemory buffer = NoRoom

-- What a start's answer leaves in the buffer: a repeat's reply fits, and every other answer leaves all as it was.
abbrev pub FillsBuffer : {P : Type 0} → Started P → List ℕ → List ℕ → Type 0
FillsBuffer (started.Dropped cause) before after = after ≡ before
FillsBuffer (started.Repeat count) before after = count ≤ 4096
FillsBuffer (started.Busy place) before after = after ≡ before
FillsBuffer (started.Full count) before after = after ≡ before
FillsBuffer (started.Fresh ticket) before after = after ≡ before
FillsBuffer started.NoMemory before after = after ≡ before

-- A load: of a shared generation, the generation.
abbrev pub load_seen : {P F : Type 0} → Result (Arc P Global) F → Result P F
load_seen (Ok generation) = Ok (arc_value generation)
load_seen (Err fault) = Err fault

-- A ticket has the generation and the moment of its place.
abbrev pub IsTicketOf : {P : Type 0} → ServerState P → Started P → Type 0
IsTicketOf state (started.Fresh ticket) =
    (state.present ≡ Some (arc_value ticket.generation)) × (state.moment ≡ ticket.moment) × (IsInTime ticket.moment)
IsTicketOf state (started.Dropped cause) = Unit {0}
IsTicketOf state (started.Repeat count) = Unit {0}
IsTicketOf state (started.Busy place) = Unit {0}
IsTicketOf state (started.Full count) = Unit {0}
IsTicketOf state started.NoMemory = Unit {0}

-- The request is put into the table under a ticket, whose place is the number of entries so far.
pub record Admits {P : Type 0} (old : ServerState P) (arrival : Arrived) (ticket : Ticket P) (new : ServerState P) : Type 0 where
  pub present : old.present ≡ Some (arc_value ticket.generation)
  pub place : ticket.place ≡ old.entries
  pub moment : ticket.moment ≡ old.moment
  pub in_time : IsInTime ticket.moment
  pub next : new ≡ with_request ticket.place arrival (arc_value ticket.generation) old

-- The request of a ticket is in progress for this worker, under the ticket's generation and moment, and the policy
-- gives this ending for it.
pub record IsHeld {P F : Type 0} (meaning : Meaning P F) (state : ServerState P) (ticket : Ticket P) (worker : ℕ) (ending : Ending) : Type 0 where
  pub may : MayFinish meaning state worker ticket.place ending
  pub generation : may.row.generation ≡ arc_value ticket.generation
  pub moment : may.row.moment ≡ ticket.moment

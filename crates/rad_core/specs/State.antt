-- The state of the server: the present generation, the moment, and the table of requests. This project's own.
use Rattle.std.specs.Prelude.{ℕ, ◌+◌, ◌-◌, ◌^◌, min, max, Option, Some, None, Bool, true, false}
use Rattle.rad_outside.specs.Moments.{last_moment}
use Rattle.rad_policy.specs.declared.arrival.Arrived.{Arrived}
use Rattle.rad_core.specs.declared.seen.Seen.{Seen}
use Rattle.rad_core.specs.Requests.{Requests, no_requests, size_of, table_at, with_row}

-- The present generation, the number of generations so far (which is the present one's number), the moment in
-- seconds, whether a stop came, the number of entries so far, and the table of requests.
pub record ServerState (P : Type 0) : Type 0 where
  pub present : Option P
  pub generations : ℕ
  pub moment : ℕ
  pub is_stopped : Bool
  pub entries : ℕ
  pub table : Requests P

-- The state in which nothing has happened.
abbrev pub opening : {P : Type 0} → ServerState P
opening = record { present = None; generations = 0; moment = 0; is_stopped = false; entries = 0; table = no_requests }

-- The later of a moment and the clock's seconds, which are cut at the last moment.
abbrev pub later_of : ℕ → ℕ → ℕ
later_of moment now = max moment (min now last_moment)

-- The moment rule: the moment becomes the later of itself and the clock's seconds, and then the replies leave whose
-- keeping time is over.
abbrev pub at_moment : {P : Type 0} → ℕ → ServerState P → ServerState P
at_moment now state = record state {
  moment = later_of state.moment now;
  table = table_at (later_of state.moment now) state.table;
}

-- One more entry stands in the history.
abbrev pub counted : {P : Type 0} → ServerState P → ServerState P
counted state = record state { entries = state.entries + 1 }

-- A request is in progress from now on, under the present generation and moment.
abbrev pub with_request : {P : Type 0} → ℕ → Arrived → P → ServerState P → ServerState P
with_request place arrival generation state = record state {
  table = with_row (record { place = place; arrival = arrival; generation = generation; moment = state.moment }) state.table;
}

-- A stop came, and stands from now on.
abbrev pub after_stop : {P : Type 0} → ServerState P → ServerState P
after_stop state = record state { is_stopped = true }

-- The number of the present generation, or 0 where there is none.
abbrev pub present_number : {P : Type 0} → ServerState P → ℕ
present_number state = elim state.present [ None ↦ 0 | Some generation ↦ state.generations ]

-- What a look shows of a state. No session is kept yet. The number of requests is cut at the end of its 32 bits.
abbrev pub seen_of : {P : Type 0} → ServerState P → Seen
seen_of state = record {
  generation = present_number state;
  sessions = 0;
  requests = min (size_of state.table) (2 ^ 32 - 1);
  stopped = state.is_stopped;
}

-- Which entries may come next, and the state after them. This project's own; requests after RFC 2865 section 2.
use Rattle.std.specs.Prelude.{ℕ, ◌≡◌, ◌≤◌, ◌<◌, ◌+◌, ◌⊎◌, List, [], ◌∷◌, Option, Some, None, Result, Ok, Err, Bool, true, if◌then◌else◌, Contains}
use Rattle.rad_outside.specs.declared.listen.Listen.{Listen}
use Rattle.rad_outside.specs.declared.listen.ListenKind.TheVariants.{Auth, Acct, Control}
use Rattle.rad_packet.specs.declared.cause.DropCause.{DropCause}
use Rattle.rad_packet.specs.Authentic.{IsFirstCause}
use Rattle.rad_policy.specs.declared.arrival.Arrived.{Arrived}
use Rattle.rad_core.specs.declared.installed.Installed.{Installed}
use Rattle.rad_core.specs.declared.installed.Installed.TheVariants as installed
use Rattle.rad_policy.specs.Policy.{Meaning, IsAuthenticUnder, GivesEnding}
use Rattle.rad_core.specs.State.{ServerState, at_moment, counted, with_request, after_stop, seen_of}
use Rattle.rad_core.specs.Requests.{InProgress, key_of, size_of, reply_for, place_for, reply_in, without_request}
use Rattle.rad_policy.specs.declared.ending.Ending.{Ending}
use Rattle.rad_core.specs.declared.started.StartAnswer.{StartAnswer}
use Rattle.rad_core.specs.declared.started.StartAnswer.TheVariants.{Dropped, Repeat, Busy, Full, Fresh, NoRoom}
use Rattle.rad_core.specs.Entry.{Entry, Start, Finish, Install, Look, Stop}

-- No reply is kept for this arrival's key, and no request in progress has it.
pub record IsNew {P : Type 0} (state : ServerState P) (arrival : Arrived) : Type 0 where
  pub unkept : reply_for (key_of arrival) state.table ≡ None
  pub unrun : place_for (key_of arrival) state.table ≡ None

-- A fresh request is due: the datagram is authentic and new, and the table has room under the generation's limit.
pub record IsDue {P F : Type 0} (meaning : Meaning P F) (state : ServerState P) (generation : P) (arrival : Arrived) : Type 0 where
  pub authentic : IsAuthenticUnder meaning generation arrival
  pub fresh : IsNew state arrival
  pub room : size_of state.table < meaning.max_requests generation

-- A start, in the state after the moment rule, under the present generation: it is dropped exactly for the first
-- cause; else it is a repeat exactly where a reply is kept for its key, else busy exactly where a request in progress has
-- it, else full exactly where the table has at least as many entries as the generation allows; and else fresh, and its
-- place is the number of entries before it. Want of memory comes only where it was due to be fresh.
abbrev pub MayStart : {P F : Type 0} → Meaning P F → ServerState P → P → Arrived → StartAnswer → Type 0
MayStart meaning state generation arrival (Dropped cause) =
    IsFirstCause cause arrival.bytes (meaning.client generation arrival.from.addr) arrival.kind
MayStart meaning state generation arrival (Repeat octets) =
    IsAuthenticUnder meaning generation arrival × (reply_for (key_of arrival) state.table ≡ Some octets)
MayStart meaning state generation arrival (Busy place) =
    IsAuthenticUnder meaning generation arrival × (reply_for (key_of arrival) state.table ≡ None)
    × (place_for (key_of arrival) state.table ≡ Some place)
MayStart meaning state generation arrival (Full count) =
    IsAuthenticUnder meaning generation arrival × IsNew state arrival
    × (count ≡ size_of state.table) × (meaning.max_requests generation ≤ count)
MayStart meaning state generation arrival (Fresh place) =
    IsDue meaning state generation arrival × (place ≡ state.entries)
MayStart meaning state generation arrival NoRoom = IsDue meaning state generation arrival

-- Under the present generation the datagram is dropped for this first cause.
abbrev pub IsDroppedFor : {P F : Type 0} → Meaning P F → ServerState P → Arrived → DropCause → Type 0
IsDroppedFor {P} meaning state arrival cause = (generation : P) × (state.present ≡ Some generation)
    × IsFirstCause cause arrival.bytes (meaning.client generation arrival.from.addr) arrival.kind

-- Under the present generation the datagram is authentic.
abbrev pub IsTaken : {P F : Type 0} → Meaning P F → ServerState P → Arrived → Type 0
IsTaken {P} meaning state arrival =
    (generation : P) × (state.present ≡ Some generation) × IsAuthenticUnder meaning generation arrival

-- The policy gives this ending for a request in progress, with this luck word and these answers of devices.
abbrev pub Gives : {P F : Type 0} → Meaning P F → InProgress P → ℕ → List Bool → Ending → Type 0
Gives meaning row luck answers ending = GivesEnding meaning row.generation row.arrival row.moment luck answers ending

-- A finish: the request of this place is in progress for this worker, and the policy gives its ending under the
-- generation and the moment of its place, for some luck word and answers.
pub record MayFinish {P F : Type 0} (meaning : Meaning P F) (state : ServerState P) (worker place : ℕ) (ending : Ending) : Type 0 where
  pub row : InProgress P
  pub there : Contains state.table.in_progress row
  pub place_is : row.place ≡ place
  pub worker_is : row.arrival.worker ≡ worker
  pub luck : ℕ
  pub answers : List Bool
  pub given : Gives meaning row luck answers ending

-- Whether a generation has the server of a listener. A control listener is of no server.
abbrev pub served_by : {P F : Type 0} → Meaning P F → P → Listen → Bool
served_by meaning generation listen = elim listen.kind [
  | Auth ↦ meaning.has_server generation listen.server
  | Acct ↦ meaning.has_server generation listen.server
  | Control ↦ true
]

-- The server of the first listener that the generation lacks, if there is one.
abbrev pub gone_of : {P F : Type 0} → Meaning P F → P → List Listen → Option (List ℕ)
gone_of meaning generation [] = None
gone_of meaning generation (listen ∷ more) =
    if served_by meaning generation listen then gone_of meaning generation more else Some listen.server

-- An install: a generation with a server for each listener is the next one, one that lacks a server is told so, and
-- a fault is refused. Want of memory may refuse any load.
abbrev pub MayInstall : {P F : Type 0} → Meaning P F → ServerState P → Result P F → List Listen → Installed F → Type 0
MayInstall meaning state (Ok generation) listeners (installed.Generation number) =
    (gone_of meaning generation listeners ≡ None) × (number ≡ state.generations + 1)
MayInstall meaning state (Ok generation) listeners (installed.ListenerGone name) =
    gone_of meaning generation listeners ≡ Some name
MayInstall meaning state (Ok generation) listeners (installed.Refused fault) = fault ≡ meaning.memory_fault
MayInstall meaning state (Err fault) listeners (installed.Generation number) = ⊥
MayInstall meaning state (Err fault) listeners (installed.ListenerGone name) = ⊥
MayInstall meaning state (Err fault) listeners (installed.Refused told) =
    (told ≡ fault) ⊎ (told ≡ meaning.memory_fault)

-- The entry may come next in this state. A look shows the state as it is, and a stop may always come.
abbrev pub May : {P F : Type 0} → Meaning P F → ServerState P → Entry P F → Type 0
May {P} meaning state (Start arrival answer) =
    (arrival.kind ≡ Auth)
    × ((generation : P) × (state.present ≡ Some generation)
    × MayStart meaning (at_moment arrival.now state) generation arrival answer)
May meaning state (Finish worker place ending) = MayFinish meaning state worker place ending
May meaning state (Install worker load listeners answer) = MayInstall meaning state load listeners answer
May meaning state (Look worker seen) = seen ≡ seen_of state
May meaning state (Stop worker) = Unit {0}

-- The state after a start.
abbrev pub after_start : {P : Type 0} → ServerState P → Arrived → StartAnswer → ServerState P
after_start state arrival (Dropped cause) = state
after_start state arrival (Repeat octets) = state
after_start state arrival (Busy place) = state
after_start state arrival (Full count) = state
after_start state arrival NoRoom = state
after_start state arrival (Fresh place) = elim state.present [
  | None ↦ state
  | Some generation ↦ with_request place arrival generation state
]

-- A start is answered in the state after the moment rule, and leads to a state that doesn't count it yet.
pub record Judges {P F : Type 0} (meaning : Meaning P F) (old : ServerState P) (arrival : Arrived) (answer : StartAnswer) (new : ServerState P) : Type 0 where
  pub generation : P
  pub present : old.present ≡ Some generation
  pub may : MayStart meaning old generation arrival answer
  pub next : new ≡ after_start old arrival answer

-- The state after a finish: the request is in progress no more, and its reply is kept, where it has one, for as many
-- seconds from this state's moment on as the request's own generation says.
abbrev pub after_finish : {P F : Type 0} → Meaning P F → ServerState P → ℕ → Ending → ServerState P
after_finish meaning state place ending = record state {
  table = without_request meaning.cleanup_delay state.moment place (reply_in ending) state.table;
}

-- The state after an install.
abbrev pub after_install : {P F : Type 0} → ServerState P → Result P F → Installed F → ServerState P
after_install state (Ok generation) (installed.Generation number) =
    record state { present = Some generation; generations = number }
after_install state (Ok generation) (installed.ListenerGone name) = state
after_install state (Ok generation) (installed.Refused fault) = state
after_install state (Err fault) (installed.Generation number) = state
after_install state (Err fault) (installed.ListenerGone name) = state
after_install state (Err fault) (installed.Refused told) = state

-- The state after an entry.
abbrev pub after : {P F : Type 0} → Meaning P F → ServerState P → Entry P F → ServerState P
after meaning state (Start arrival answer) =
    counted (after_start (at_moment arrival.now state) arrival answer)
after meaning state (Finish worker place ending) = counted (after_finish meaning state place ending)
after meaning state (Install worker load listeners answer) = counted (after_install state load answer)
after meaning state (Look worker seen) = counted state
after meaning state (Stop worker) = counted (after_stop state)

-- One step: the entry may come, and the state is the one after it.
pub record Step {P F : Type 0} (meaning : Meaning P F) (old : ServerState P) (entry : Entry P F) (new : ServerState P) : Type 0 where
  pub may : May meaning old entry
  pub next : new ≡ after meaning old entry

-- The state after these entries.
abbrev pub run : {P F : Type 0} → Meaning P F → ServerState P → List (Entry P F) → ServerState P
run meaning state [] = state
run meaning state (entry ∷ more) = run meaning (after meaning state entry) more

-- A legal history: each entry may come in the state after those before it.
abbrev pub IsLegal : {P F : Type 0} → Meaning P F → ServerState P → List (Entry P F) → Type 0
IsLegal meaning state [] = Unit {0}
IsLegal meaning state (entry ∷ more) = May meaning state entry × IsLegal meaning (after meaning state entry) more

-- What a history says of one worker. This project's own.
use Rattle.std.specs.Prelude.{ℕ, ◌≡◌, ◌==◌, ◌+◌, length, List, [], ◌∷◌, ◌++◌, filter, if◌then◌else◌, Bool, true, false, not, IsTrue, Option, Some, None}
use Rattle.std.specs.List.{AllByRecursion}
use Rattle.rad_outside.specs.declared.listen.Peer.{Peer}
use Rattle.rad_policy.specs.declared.arrival.Arrived.{Arrived}
use Rattle.rad_policy.specs.declared.ending.Ending.{Ending}
use Rattle.rad_policy.specs.declared.ending.Ending.TheVariants.{Sent, Withheld, OutOfMemory}
use Rattle.rad_core.specs.declared.started.StartAnswer.{StartAnswer}
use Rattle.rad_core.specs.declared.started.StartAnswer.TheVariants.{Dropped, Repeat, Busy, Full, Fresh, NoRoom}
use Rattle.rad_policy.specs.Policy.{Meaning}
use Rattle.rad_core.specs.State.{ServerState, at_moment}
use Rattle.rad_core.specs.Entry.{Entry, Start, Finish, Install, Look, Stop, worker_of}
use Rattle.rad_core.specs.Step.{after, run, IsLegal, Gives}

-- An entry with the state before it.
pub data Placed (P F : Type 0) : Type 0 where
  At : (before : ServerState P) (entry : Entry P F) → Placed P F

-- Each entry of a history with the state before it.
abbrev pub placed : {P F : Type 0} → Meaning P F → ServerState P → List (Entry P F) → List (Placed P F)
placed meaning state [] = []
placed meaning state (entry ∷ more) = At state entry ∷ placed meaning (after meaning state entry) more

-- Whether an entry is this worker's.
abbrev pub is_of : {P F : Type 0} → ℕ → Placed P F → Bool
is_of worker (At before entry) = worker_of entry == worker

-- The entries of one worker, in order.
abbrev pub of_worker : {P F : Type 0} → ℕ → List (Placed P F) → List (Placed P F)
of_worker worker entries = filter (is_of worker) entries

-- The arrivals of the starts, in order.
abbrev pub served : {P F : Type 0} → List (Placed P F) → List Arrived
served [] = []
served (At before (Start arrival answer) ∷ more) = arrival ∷ served more
served (At before (Finish worker place ending) ∷ more) = served more
served (At before (Install worker load listeners answer) ∷ more) = served more
served (At before (Look worker seen) ∷ more) = served more
served (At before (Stop worker) ∷ more) = served more

-- What came of a worker's asks, in order: the arrival of each start, and nothing at each look.
abbrev pub asked : {P F : Type 0} → List (Placed P F) → List (Option Arrived)
asked [] = []
asked (At before (Start arrival answer) ∷ more) = Some arrival ∷ asked more
asked (At before (Finish worker place ending) ∷ more) = asked more
asked (At before (Install worker load listeners answer) ∷ more) = asked more
asked (At before (Look worker seen) ∷ more) = None ∷ asked more
asked (At before (Stop worker) ∷ more) = asked more

-- How the request of a place ended, looked for in what follows its start.
abbrev pub ending_of : {P F : Type 0} → ℕ → List (Placed P F) → Option Ending
ending_of place [] = None
ending_of place (At before (Start arrival answer) ∷ more) = ending_of place more
ending_of place (At before (Finish worker finished ending) ∷ more) =
    if finished == place then Some ending else ending_of place more
ending_of place (At before (Install worker load listeners answer) ∷ more) = ending_of place more
ending_of place (At before (Look worker seen) ∷ more) = ending_of place more
ending_of place (At before (Stop worker) ∷ more) = ending_of place more

-- A reply: to whom, and its octets.
pub record Answer : Type 0 where
  pub to : Peer
  pub octets : List ℕ

-- The reply that an ending sends to the source of its arrival, if it sends one.
abbrev pub reply_of : Arrived → Option Ending → List Answer
reply_of arrival None = []
reply_of arrival (Some (Sent octets)) = record { to = arrival.from; octets = octets } ∷ []
reply_of arrival (Some Withheld) = []
reply_of arrival (Some OutOfMemory) = []

-- The replies that a start leads to: of a repeat the octets that were kept, of a fresh one those of the ending of its
-- place.
abbrev pub replies_of : {P F : Type 0} → Arrived → StartAnswer → List (Placed P F) → List Answer
replies_of arrival (Dropped cause) later = []
replies_of arrival (Repeat octets) later = record { to = arrival.from; octets = octets } ∷ []
replies_of arrival (Busy place) later = []
replies_of arrival (Full count) later = []
replies_of arrival NoRoom later = []
replies_of arrival (Fresh place) later = reply_of arrival (ending_of place later)

-- The replies to the arrivals, in their order.
abbrev pub answered : {P F : Type 0} → List (Placed P F) → List Answer
answered [] = []
answered (At before (Start arrival answer) ∷ more) = replies_of arrival answer more ++ answered more
answered (At before (Finish worker place ending) ∷ more) = answered more
answered (At before (Install worker load listeners answer) ∷ more) = answered more
answered (At before (Look worker seen) ∷ more) = answered more
answered (At before (Stop worker) ∷ more) = answered more

-- What comes next is the finish of this place.
abbrev pub BeginsWithFinish : {P F : Type 0} → ℕ → List (Placed P F) → Type 0
BeginsWithFinish place [] = ⊥
BeginsWithFinish place (At before (Start arrival answer) ∷ more) = ⊥
BeginsWithFinish place (At before (Finish worker finished ending) ∷ more) = finished ≡ place
BeginsWithFinish place (At before (Install worker load listeners answer) ∷ more) = ⊥
BeginsWithFinish place (At before (Look worker seen) ∷ more) = ⊥
BeginsWithFinish place (At before (Stop worker) ∷ more) = ⊥

-- What has to follow a start: after a fresh one its finish comes next.
abbrev pub IsFollowed : {P F : Type 0} → StartAnswer → List (Placed P F) → Type 0
IsFollowed (Dropped cause) later = Unit {0}
IsFollowed (Repeat octets) later = Unit {0}
IsFollowed (Busy place) later = Unit {0}
IsFollowed (Full count) later = Unit {0}
IsFollowed NoRoom later = Unit {0}
IsFollowed (Fresh place) later = BeginsWithFinish place later

-- Each fresh start is followed by its finish, with no other entry of the worker between them.
abbrev pub IsClosed : {P F : Type 0} → List (Placed P F) → Type 0
IsClosed [] = Unit {0}
IsClosed (At before (Start arrival answer) ∷ more) = IsFollowed answer more × IsClosed more
IsClosed (At before (Finish worker place ending) ∷ more) = IsClosed more
IsClosed (At before (Install worker load listeners answer) ∷ more) = IsClosed more
IsClosed (At before (Look worker seen) ∷ more) = IsClosed more
IsClosed (At before (Stop worker) ∷ more) = IsClosed more

-- The policy gives the ending of this arrival under a generation, at a moment, with this luck word and some answers
-- of devices. Where it hasn't ended, nothing is said.
abbrev pub IsOutcome : {P F : Type 0} → Meaning P F → P → Arrived → ℕ → ℕ → Option Ending → Type 0
IsOutcome meaning generation arrival moment luck None = Unit {0}
IsOutcome meaning generation arrival moment luck (Some ending) =
    (answers : List Bool)
    × Gives meaning (record { place = 0; arrival = arrival; generation = generation; moment = moment }) luck answers ending

-- What a start's outcome has to be: that of a fresh one is what the policy means for the arrival under the
-- generation and the moment of its place. No other one has an outcome, since no policy is run for it.
abbrev pub HasOutcome : {P F : Type 0} → Meaning P F → ServerState P → Arrived → ℕ → StartAnswer → List (Placed P F) → Type 0
HasOutcome meaning before arrival luck (Dropped cause) later = Unit {0}
HasOutcome meaning before arrival luck (Repeat octets) later = Unit {0}
HasOutcome meaning before arrival luck (Busy place) later = Unit {0}
HasOutcome meaning before arrival luck (Full count) later = Unit {0}
HasOutcome meaning before arrival luck NoRoom later = Unit {0}
HasOutcome {P} meaning before arrival luck (Fresh place) later =
    (generation : P) × (before.present ≡ Some generation)
    × IsOutcome meaning generation arrival (at_moment arrival.now before).moment luck (ending_of place later)

-- The arrivals take one luck word each, in order, and each has the outcome that the policy means with that word.
abbrev pub HaveOutcomes : {P F : Type 0} → Meaning P F → List ℕ → List (Placed P F) → Type 0
HaveOutcomes meaning words [] = words ≡ []
HaveOutcomes meaning [] (At before (Start arrival answer) ∷ more) = ⊥
HaveOutcomes meaning (word ∷ words) (At before (Start arrival answer) ∷ more) =
    HasOutcome meaning before arrival word answer more × HaveOutcomes meaning words more
HaveOutcomes meaning words (At before (Finish worker place ending) ∷ more) = HaveOutcomes meaning words more
HaveOutcomes meaning words (At before (Install worker load listeners answer) ∷ more) = HaveOutcomes meaning words more
HaveOutcomes meaning words (At before (Look worker seen) ∷ more) = HaveOutcomes meaning words more
HaveOutcomes meaning words (At before (Stop worker) ∷ more) = HaveOutcomes meaning words more

-- What a worker adds while it serves: starts, finishes, and looks that show no stop.
abbrev pub is_service : {P F : Type 0} → Placed P F → Bool
is_service (At before (Start arrival answer)) = true
is_service (At before (Finish worker place ending)) = true
is_service (At before (Install worker load listeners answer)) = false
is_service (At before (Look worker seen)) = not seen.stopped
is_service (At before (Stop worker)) = false

-- The worker has neither loaded a generation nor stopped the server, and has seen no stop.
abbrev pub OnlyServes : {P F : Type 0} → List (Placed P F) → Type 0
OnlyServes mine = AllByRecursion (λ entry. IsTrue (is_service entry)) mine

-- What one arrival adds to its worker's entries: itself with this luck word, and the replies to it.
pub record IsTurn {P F : Type 0} (meaning : Meaning P F) (arrival : Arrived) (luck : ℕ) (replies : List Answer) (mine : List (Placed P F)) : Type 0 where
  pub serves : served mine ≡ arrival ∷ []
  pub asks : asked mine ≡ Some arrival ∷ []
  pub answers : answered mine ≡ replies
  pub closed : IsClosed mine
  pub outcome : HaveOutcomes meaning (luck ∷ []) mine
  pub service : OnlyServes mine

-- The entry is this worker's.
abbrev pub IsOwn : {P F : Type 0} → ℕ → Entry P F → Type 0
IsOwn worker entry = worker_of entry ≡ worker

-- What one arrival adds to the history, from a state to a state with nothing in progress. All of it is its worker's.
pub record Passes {P F : Type 0} (meaning : Meaning P F) (old new : ServerState P) (added : List (Entry P F)) (arrival : Arrived) (luck : ℕ) (replies : List Answer) : Type 0 where
  pub legal : IsLegal meaning old added
  pub next : new ≡ run meaning old added
  pub idle : new.table.in_progress ≡ []
  pub present : new.present ≡ old.present
  pub count : new.entries ≡ old.entries + length added
  pub named : AllByRecursion (IsOwn arrival.worker) added
  pub turn : IsTurn meaning arrival luck replies (placed meaning old added)

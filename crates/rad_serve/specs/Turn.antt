-- What one datagram's whole way adds to the history, and the reply that it leaves in a buffer. This project's own.
use Rattle.std.specs.Prelude.{ℕ, ◌≡◌, ◌≤◌, ◌+◌, ◌++◌, List, [], ◌∷◌, length, take, Option, Some, None}
use Rattle.std.specs.Arc.{arc_value}
use Rattle.std.specs.Option.{is_some}
use Rattle.rad_policy.specs.declared.arrival.Arrived.{Arrived}
use Rattle.rad_policy.specs.declared.outcome.Outcome.{Outcome}
use Rattle.rad_policy.specs.declared.outcome.Outcome.TheVariants as outcome
use Rattle.rad_core.specs.declared.started.Started.{Started}
use Rattle.rad_core.specs.declared.started.Started.TheVariants as started
use Rattle.rad_core.specs.State.{ServerState}
use Rattle.rad_core.specs.declared.entry.Entry.{Entry}
use Rattle.rad_core.specs.Worker.{Answer, Passes}
use Rattle.rad_build.specs.declared.fault.BuildFault.{BuildFault}
use Rattle.rad_serve.specs.declared.turn.Reply.{Reply}
use Rattle.rad_serve.specs.declared.turn.Taken.{Taken}
use Rattle.rad_serve.specs.Counting.{tally_of, with_request}
use Rattle.rad_site.specs.Site.{Site}
use Rattle.rad_site.specs.Meaning.{site_meaning}

-- The reply stands at the front of the buffer, where there is one.
abbrev pub IsCopied : Outcome → Option Reply → List ℕ → Type 0
IsCopied (outcome.Sent octets) (Some reply) buffer = take reply.length buffer ≡ arc_value octets
IsCopied (outcome.Sent octets) None buffer = ⊥
IsCopied outcome.Withheld copied buffer = copied ≡ None
IsCopied outcome.NoMemory copied buffer = copied ≡ None

-- What a start is answered at once, which has no ticket: a repeat the reply that it left in the buffer, of no place, and
-- any other none.
abbrev pub AnswersAtOnce : Started Site → Option Reply → Type 0
AnswersAtOnce (started.Dropped cause) reply = reply ≡ None
AnswersAtOnce (started.Repeat count) reply = reply ≡ Some (record { length = count; place = 0 })
AnswersAtOnce (started.Busy place) reply = reply ≡ None
AnswersAtOnce (started.Full count) reply = reply ≡ None
AnswersAtOnce (started.Fresh ticket) reply = ⊥
AnswersAtOnce started.NoMemory reply = reply ≡ None

-- The reply in the buffer, to the source of its arrival.
abbrev pub answers_of : Arrived → Option Reply → List ℕ → List Answer
answers_of arrival None buffer = []
answers_of arrival (Some reply) buffer = record { to = arrival.from; octets = take reply.length buffer } ∷ []

-- A reply has at most 4,096 octets.
abbrev pub FitsAnswer : Option Reply → Type 0
FitsAnswer None = Unit {0}
FitsAnswer (Some reply) = reply.length ≤ 4096

-- What one arrival's way has added is so many entries, one or two, and counts as one request and its reply.
pub record CountsTurn (before after : List (Entry Site BuildFault)) (taken : Taken) : Type 0 where
  pub more : length after ≡ length before + taken.entries
  pub few : taken.entries ≤ 2
  pub tally : tally_of after ≡ with_request (is_some taken.reply) (tally_of before)

-- One arrival's way has added entries to the history: they are legal after the state before, and lead to the state
-- after, with these replies.
abbrev pub AddsTurn : List (Entry Site BuildFault) → List (Entry Site BuildFault) → ServerState Site → ServerState Site → Arrived → ℕ → List Answer → Type 0
AddsTurn before after old new arrival luck replies =
    (added : List (Entry Site BuildFault)) × (after ≡ before ++ added)
    × Passes site_meaning old new added arrival luck replies

-- That each request which is accepted is answered, once. This project's own; replies after RFC 2865 section 2.
use Rattle.std.specs.Prelude.{◌≡◌, ◌⊎◌, ℕ, List, [], ◌∷◌, Option, Some, None}
use Rattle.rad_policy.specs.declared.arrival.Arrived.{Arrived}
use Rattle.rad_policy.specs.declared.ending.Ending.{Ending}
use Rattle.rad_policy.specs.declared.ending.Ending.TheVariants.{Sent, Withheld, OutOfMemory}
use Rattle.rad_core.specs.declared.started.StartAnswer.{StartAnswer}
use Rattle.rad_core.specs.declared.started.StartAnswer.TheVariants.{Dropped, Repeat, Busy, Full, Fresh, NoRoom}
use Rattle.rad_policy.specs.Policy.{Meaning}
use Rattle.rad_core.specs.State.{ServerState}
use Rattle.rad_core.specs.Entry.{Start, Finish, Install, Look, Stop}
use Rattle.rad_core.specs.Step.{IsTaken}
use Rattle.rad_core.specs.Worker.{Placed, At, ending_of, replies_of}

-- How the request of a start ended, if it has: a fresh one as the finish of its place says, a repeat by the reply that was
-- kept, one that found no memory for want of it. What was dropped, busy or full has no ending.
abbrev pub end_of : {P F : Type 0} → StartAnswer → List (Placed P F) → Option Ending
end_of (Dropped cause) later = None
end_of (Repeat octets) later = Some (Sent octets)
end_of (Busy place) later = None
end_of (Full count) later = None
end_of NoRoom later = Some OutOfMemory
end_of (Fresh place) later = ending_of place later

-- The request was in progress already, or the table was full.
abbrev pub IsTurnedAway : StartAnswer → Type 0
IsTurnedAway (Dropped cause) = ⊥
IsTurnedAway (Repeat octets) = ⊥
IsTurnedAway (Busy place) = Unit {0}
IsTurnedAway (Full count) = Unit {0}
IsTurnedAway (Fresh place) = ⊥
IsTurnedAway NoRoom = ⊥

-- An arrival that is authentic under the present generation has one reply, to its source, unless its request was in
-- progress already or the table was full, the policy withholds it, or memory ran out.
abbrev pub HasOneReply : {P F : Type 0} → Meaning P F → ServerState P → Arrived → StartAnswer → List (Placed P F) → Type 0
HasOneReply meaning before arrival answer later =
    IsTaken meaning before arrival
    → ((octets : List ℕ) × (replies_of arrival answer later ≡ record { to = arrival.from; octets = octets } ∷ []))
    ⊎ (IsTurnedAway answer ⊎ ((end_of answer later ≡ Some Withheld) ⊎ (end_of answer later ≡ Some OutOfMemory)))

-- Each arrival of these entries has.
abbrev pub EachHasOneReply : {P F : Type 0} → Meaning P F → List (Placed P F) → Type 0
EachHasOneReply meaning [] = Unit {0}
EachHasOneReply meaning (At before (Start arrival answer) ∷ more) =
    HasOneReply meaning before arrival answer more × EachHasOneReply meaning more
EachHasOneReply meaning (At before (Finish worker place ending) ∷ more) = EachHasOneReply meaning more
EachHasOneReply meaning (At before (Install worker load listeners answer) ∷ more) = EachHasOneReply meaning more
EachHasOneReply meaning (At before (Look worker seen) ∷ more) = EachHasOneReply meaning more
EachHasOneReply meaning (At before (Stop worker) ∷ more) = EachHasOneReply meaning more

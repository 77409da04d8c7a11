-- What a repeat gets, over whole histories. This project's own, after RFC 5080 section 2.2.2.
use Rattle.std.specs.Prelude.{ℕ, ◌≡◌, ◌+◌, ◌≤◌, List, ◌∷◌, ◌++◌, Some, find}
use Rattle.rad_policy.specs.declared.arrival.Arrived.{Arrived}
use Rattle.rad_policy.specs.declared.ending.Ending.TheVariants.{Sent}
use Rattle.rad_policy.specs.Policy.{Meaning}
use Rattle.rad_core.specs.declared.started.StartAnswer.{StartAnswer}
use Rattle.rad_core.specs.declared.started.StartAnswer.TheVariants.{Repeat}
use Rattle.rad_core.specs.Requests.{InProgress, key_of, is_at}
use Rattle.rad_core.specs.State.{opening, later_of}
use Rattle.rad_core.specs.Entry.{Entry, Start, Finish}
use Rattle.rad_core.specs.Step.{run, IsTaken}

-- After this history an arrival comes as a repeat, in its keeping time, of a request that was answered with these octets:
-- a finish in the history sent them as the reply to a request with the same key, and the moment of the arrival is at most
-- the finish's moment and the seconds for which the request's generation keeps replies.
pub record IsRepeatOf {P F : Type 0} (meaning : Meaning P F) (history : List (Entry P F)) (arrival : Arrived) (octets : List ℕ) : Type 0 where
  pub before : List (Entry P F)
  pub later : List (Entry P F)
  pub worker : ℕ
  pub place : ℕ
  pub request : InProgress P
  pub is : history ≡ before ++ Finish worker place (Sent octets) ∷ later
  pub there : find (is_at place) (run meaning opening before).table.in_progress ≡ Some request
  pub same : key_of arrival ≡ key_of request.arrival
  pub lasts : later_of (run meaning opening history).moment arrival.now
      ≤ (run meaning opening before).moment + meaning.cleanup_delay request.generation

-- A history keeps replies. A repeat in its keeping time gets the first reply's octets and no other answer, unless it isn't
-- authentic any more, so no policy is run for it; and nothing else is answered as a repeat, so after its keeping time a
-- request is run again, where the table has room.
pub record KeepsReplies {P F : Type 0} (meaning : Meaning P F) (history : List (Entry P F)) : Type 0 where
  pub first : (front later : List (Entry P F)) (arrival : Arrived) (answer : StartAnswer) (octets : List ℕ)
      → history ≡ front ++ Start arrival answer ∷ later
      → IsTaken meaning (run meaning opening front) arrival
      → IsRepeatOf meaning front arrival octets
      → answer ≡ Repeat octets
  pub only : (front later : List (Entry P F)) (arrival : Arrived) (octets : List ℕ)
      → history ≡ front ++ Start arrival (Repeat octets) ∷ later
      → IsRepeatOf meaning front arrival octets

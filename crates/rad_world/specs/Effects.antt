-- The effects of a policy: what it had its devices do. This project's own; a change of the sessions follows an accounting
-- message (RFC 2866).
use Rattle.std.specs.Prelude.{ℕ, ◌+◌, Bool, true, false, List, [], ◌∷◌}
use Rattle.rad_sessions.specs.declared.session.Session.{Session}
use Rattle.rad_sessions.specs.declared.change.Change.{Change}
use Rattle.rad_sessions.specs.Listed.{after}

-- A piece that was to be appended to the file at a path, or a change whose line was to be appended to the log of sessions;
-- true where it was done.
pub data Effect : Type 0 where
  Write : (path : List ℕ) (octets : List ℕ) (done : Bool) → Effect
  Line : (change : Change) (done : Bool) → Effect

-- What the device answered.
abbrev pub answer_of : Effect → Bool
answer_of (Write path octets done) = done
answer_of (Line change done) = done

-- What the devices answered, effect by effect.
abbrev pub answers_of : List Effect → List Bool
answers_of [] = []
answers_of (effect ∷ effects) = answer_of effect ∷ answers_of effects

-- The sessions after an effect: a change that was done does what it says, and nothing else changes them.
abbrev pub after_effect : List Session → Effect → List Session
after_effect sessions (Write path octets done) = sessions
after_effect sessions (Line change true) = after sessions change
after_effect sessions (Line change false) = sessions

-- The sessions after effects, in order.
abbrev pub after_effects : List Session → List Effect → List Session
after_effects sessions [] = sessions
after_effects sessions (effect ∷ effects) = after_effects (after_effect sessions effect) effects

-- The answers to the pieces of files.
abbrev pub writes_of : List Effect → List Bool
writes_of [] = []
writes_of (Write path octets done ∷ effects) = done ∷ writes_of effects
writes_of (Line change done ∷ effects) = writes_of effects

-- The answers to the lines of the log.
abbrev pub lines_of : List Effect → List Bool
lines_of [] = []
lines_of (Write path octets done ∷ effects) = lines_of effects
lines_of (Line change done ∷ effects) = done ∷ lines_of effects

-- How many of these answers are failures.
abbrev pub failures_in : List Bool → ℕ
failures_in [] = 0
failures_in (true ∷ answers) = failures_in answers
failures_in (false ∷ answers) = failures_in answers + 1

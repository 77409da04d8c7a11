-- Sessions as they are kept, with the change that room was made for. This project's own.
use Rattle.std.specs.Prelude.{◌≡◌, Bool, true, false, List, Option, None, Result, Ok, Err}
use Rattle.rad_sessions.specs.declared.session.Session.{Session}
use Rattle.rad_sessions.specs.declared.change.Change.{Change}
use Rattle.rad_sessions.specs.declared.fault.RoomFault.{RoomFault}
use Rattle.rad_sessions.specs.declared.fault.RoomFault.TheVariants.{Full, NoMemory}
use Rattle.rad_sessions.specs.Listed.{limit}

-- The sessions, in order of their places, and the change that room was made for, or none.
pub record Kept : Type 0 where
  pub sessions : List Session
  pub room : Option Change

-- Sessions without room for a change.
abbrev pub without_room : List Session → Kept
without_room sessions = record { sessions = sessions; room = None }

-- Room is refused as full exactly where the change would add a session to as many as may stand; want of memory says
-- nothing of it.
abbrev pub IsFullWhere : Bool → Result (Unit {0}) RoomFault → Type 0
IsFullWhere too_many (Ok done) = too_many ≡ false
IsFullWhere too_many (Err (Full count)) = (too_many ≡ true) × (count ≡ limit)
IsFullWhere too_many (Err NoMemory) = Unit {0}

-- Pieces that were appended to a log one after another, some of them whole and some not. This project's own.
use Rattle.std.specs.Prelude.{◌≡◌, ℕ, Bool, false, List, [], ◌∷◌, length, take, nat_le, if◌then◌else◌}
use Rattle.std.specs.List.{flat_map, AllByRecursion}
use Rattle.rad_sessions.specs.declared.change.Change.{Change}
use Rattle.rad_sessions.specs.declared.session.Session.{Session}
use Rattle.rad_sessions.specs.Listed.{after, is_too_many}
use Rattle.rad_sessions.specs.Log.{piece_of}
use Rattle.rad_sessions.specs.Laws.{IsChange}

-- The append of a change's piece: the change, and how many of the piece's octets were written. All of them were, or after
-- a failure a proper prefix.
pub record Written : Type 0 where
  pub change : Change
  pub count : ℕ

-- The octets that were written.
abbrev pub octets_of_one : Written → List ℕ
octets_of_one written = take written.count (piece_of written.change)

-- The piece is whole, and its change is done.
abbrev pub is_whole : Written → Bool
is_whole written = nat_le (length (piece_of written.change)) written.count

-- What these appends put behind a log.
abbrev pub octets_of_all : List Written → List ℕ
octets_of_all pieces = flat_map octets_of_one pieces

-- The changes that are done, in order.
abbrev pub done_of : List Written → List Change
done_of [] = []
done_of (written ∷ pieces) = if is_whole written then written.change ∷ done_of pieces else done_of pieces

-- Each change has fields of their types.
abbrev pub AreChanges : List Written → Type 0
AreChanges pieces = AllByRecursion (λ (written : Written). IsChange written.change) pieces

-- None of the changes, in order, would add a session to as many as may stand.
abbrev pub AllFit : List Session → List Change → Type 0
AllFit sessions [] = Unit {0}
AllFit sessions (change ∷ changes) = (is_too_many sessions change ≡ false) × AllFit (after sessions change) changes

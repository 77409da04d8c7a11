-- Sessions in 256 parts by their users, so that a change builds the parts that it changes and shares the others. These
-- words serve the crate's own clauses: what is promised speaks of one list. This project's own.
use Rattle.std.specs.Prelude.{◌≡◌, ℕ, suc, ◌+◌, ◌%◌, Bool, ◌==◌, List, [], ◌∷◌, length, Option, Some, None, filter, if◌then◌else◌}
use Rattle.rad_sessions.specs.declared.session.Session.{Session}
use Rattle.rad_sessions.specs.declared.change.Change.{Change}
use Rattle.rad_sessions.specs.declared.change.Change.TheVariants.{Begin, Renew, End, Clear}
use Rattle.rad_sessions.specs.Listed.{AreInOrder, after, begun, ended, place_of, session_at}

-- The sum behind n of the octets of a name, modulo 256.
unfoldable pub sum_after : ℕ → List ℕ → ℕ
sum_after n [] = n
sum_after n (c ∷ rest) = sum_after ((n + c) % 256) rest

-- A user's part: the sum of the octets of the name, modulo 256.
abbrev pub part_of : List ℕ → ℕ
part_of user = sum_after 0 user

-- The session stands in this part.
abbrev pub is_in : ℕ → Session → Bool
is_in part session = part_of session.user == part

-- The lists are the parts of these sessions from a part on, one after another.
abbrev pub AreParts : ℕ → List (List Session) → List Session → Type 0
AreParts part [] sessions = Unit {0}
AreParts part (list ∷ lists) sessions = (list ≡ filter (is_in part) sessions) × AreParts (suc part) lists sessions

-- The sessions after others began, one after another.
abbrev pub all_begun : List Session → List Session → List Session
all_begun sessions [] = sessions
all_begun sessions (s ∷ others) = all_begun (begun s sessions) others

-- The sessions with those of lists, each in its place.
abbrev pub joined : List Session → List (List Session) → List Session
joined sessions [] = sessions
joined sessions (list ∷ lists) = joined (all_begun sessions list) lists

-- The lists are the 256 parts of the sessions that they give together, which are in order.
pub record IsParted (lists : List (List Session)) : Type 0 where
  pub order : AreInOrder (joined [] lists)
  pub parts : AreParts 0 lists (joined [] lists)
  pub count : length lists ≡ 256

-- A part after a session begins: it stands in its user's part, and in no other.
abbrev pub begun_in : ℕ → Session → List Session → List Session
begun_in part session sessions = if is_in part session then begun session sessions else ended (place_of session) sessions

-- A part after a change.
abbrev pub after_in : ℕ → List Session → Change → List Session
after_in part sessions (Begin session) = begun_in part session sessions
after_in part sessions (Renew nas port framed) = after sessions (Renew nas port framed)
after_in part sessions (End nas port) = after sessions (End nas port)
after_in part sessions (Clear nas) = after sessions (Clear nas)

-- The parts from a part on after a change.
abbrev pub parts_after : ℕ → List (List Session) → Change → List (List Session)
parts_after part [] change = []
parts_after part (list ∷ lists) change = after_in part list change ∷ parts_after (suc part) lists change

-- The first session at a place in lists.
abbrev pub found_in : ℕ × ℕ → List (List Session) → Option Session
found_in place [] = None
found_in place (list ∷ lists) = elim (session_at place list) [ None ↦ found_in place lists | Some s ↦ Some s ]

-- How many sessions stand in lists.
abbrev pub lengths : List (List Session) → ℕ
lengths [] = 0
lengths (list ∷ lists) = length list + lengths lists

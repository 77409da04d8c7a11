-- Sessions as a list in order of NAS and port, and what changes do to them. A session is known by its NAS and port, as
-- accounting messages know it (RFC 2866). This project's own.
use Rattle.std.specs.Prelude.{ℕ, Bool, false, not, ◌&&◌, ◌==◌, List, [], ◌∷◌, length, Option, Some, None, filter, if◌then◌else◌}
use Rattle.std.specs.declared.cmp.Ordering.{Ordering}
use Rattle.std.specs.Ordering.{nat_cmp, ordering_then, match_ordering, is_eq}
use Rattle.std.specs.List.Sorted.{IsStrictlySortedBy}
use Rattle.std.specs.Str.{bytes_eq}
use Rattle.std.specs.Prelude.{map, nat_le}
use Rattle.std.specs.List.{fold}
use Rattle.std.specs.Option.{is_some}
use Rattle.rad_sessions.specs.declared.session.Session.{Session}
use Rattle.rad_sessions.specs.declared.change.Change.{Change}
use Rattle.rad_sessions.specs.declared.change.Change.TheVariants.{Begin, Renew, End, Clear}

-- Where a session is: its NAS and port.
abbrev pub place_of : Session → ℕ × ℕ
place_of session = (session.nas, session.port)

-- Places stand in order of their NAS, and those of one NAS in order of their port.
abbrev pub place_cmp : ℕ × ℕ → ℕ × ℕ → Ordering
place_cmp p q = ordering_then (nat_cmp p.0 q.0) (nat_cmp p.1 q.1)

-- The session is at this place.
abbrev pub is_at : ℕ × ℕ → Session → Bool
is_at place session = is_eq (place_cmp place (place_of session))

-- The sessions stand in order of their places, and no two at one place.
abbrev pub AreInOrder : List Session → Type 0
AreInOrder sessions = IsStrictlySortedBy place_cmp (map place_of sessions)

-- The session at a place, or none.
abbrev pub session_at : ℕ × ℕ → List Session → Option Session
session_at place [] = None
session_at place (s ∷ sessions) = if is_at place s then Some s else session_at place sessions

-- The sessions with one more in its place, instead of one that is there.
abbrev pub begun : Session → List Session → List Session
begun session [] = session ∷ []
begun session (s ∷ sessions) = match_ordering (place_cmp (place_of session) (place_of s)) (session ∷ s ∷ sessions) (session ∷ sessions) (s ∷ begun session sessions)

-- The sessions without the one at a place.
abbrev pub ended : ℕ × ℕ → List Session → List Session
ended place [] = []
ended place (s ∷ sessions) = if is_at place s then sessions else s ∷ ended place sessions

-- The session with another address of its user.
abbrev pub with_framed : ℕ → Session → Session
with_framed framed session = record { nas = session.nas; port = session.port; framed = framed; since = session.since; user = session.user; id = session.id }

-- The sessions, where one begins again; none does where there is none.
abbrev pub begun_again : Option Session → List Session → List Session
begun_again None sessions = sessions
begun_again (Some session) sessions = begun session sessions

-- The session at a place with another address of its user.
abbrev pub renewed_at : ℕ × ℕ → ℕ → List Session → Option Session
renewed_at place framed sessions = elim (session_at place sessions) [ None ↦ None | Some s ↦ Some (with_framed framed s) ]

-- The session is of another NAS.
abbrev pub is_elsewhere : ℕ → Session → Bool
is_elsewhere nas session = not (session.nas == nas)

-- The sessions after a change: one begins, and replaces the one there; one has another address; one ends; all of a NAS
-- end. Without a session there, the second and the third change nothing.
unfoldable pub after : List Session → Change → List Session
after sessions (Begin session) = begun session sessions
after sessions (Renew nas port framed) = begun_again (renewed_at (nas, port) framed sessions) sessions
after sessions (End nas port) = ended (nas, port) sessions
after sessions (Clear nas) = filter (is_elsewhere nas) sessions

-- The sessions after changes, in order.
abbrev pub after_all : List Session → List Change → List Session
after_all sessions changes = fold after sessions changes

-- How many sessions stand at most.
abbrev pub limit : ℕ
limit = 65536

-- The change would add a session to as many as may stand.
abbrev pub is_too_many : List Session → Change → Bool
is_too_many sessions (Begin session) = nat_le limit (length sessions) && not (is_some (session_at (place_of session) sessions))
is_too_many sessions (Renew nas port framed) = false
is_too_many sessions (End nas port) = false
is_too_many sessions (Clear nas) = false

-- How many sessions a user has; names are compared octet by octet.
abbrev pub count_of : List ℕ → List Session → ℕ
count_of user sessions = length (filter (λ (s : Session). bytes_eq s.user user) sessions)

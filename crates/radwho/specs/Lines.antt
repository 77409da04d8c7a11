-- The lines that show sessions. After FreeRADIUS' radwho(1), in this project's own columns.
use Rattle.std.specs.Prelude.{ℕ, Bool, true, false, ◌&&◌, ◌||◌, ◌==◌, ◌+◌, ◌/◌, ◌%◌, List, [], ◌∷◌, ◌++◌, map, nat_lt, nat_le, Option, Some, None, if◌then◌else◌}
use Rattle.std.specs.Char.{to_ascii_lowercase}
use Rattle.std.specs.Fmt.{decimal}
use Rattle.std.specs.List.{flat_map}
use Rattle.std.specs.Str.{bytes_eq}
use Rattle.rad_outside.specs.Moments.{last_moment}
use Rattle.rad_text.specs.Addresses.{dotted}
use Rattle.rad_dates.specs.Dates.{date_of}
use Rattle.rad_dates.specs.Padded.{left_in, right_in}
use Rattle.rad_dates.specs.Stamp.{date_time_text}
use Rattle.rad_sessions.specs.declared.session.Session.{Session}
use Rattle.radwho.specs.declared.wanted.Wanted.{Wanted}

-- An octet that isn't shown as it is: one that isn't printed in ASCII, a backslash, and a comma where commas part fields.
abbrev pub is_escaped : Bool → ℕ → Bool
is_escaped commas c = nat_lt c 32 || (nat_lt 126 c || (c == 92 || (commas && c == 44)))

-- A backslash and the octet in three octal digits.
abbrev pub octal : ℕ → List ℕ
octal c = 92 ∷ (48 + c / 64) ∷ (48 + c / 8 % 8) ∷ (48 + c % 8) ∷ []

-- An octet as it is shown.
abbrev pub shown : Bool → ℕ → List ℕ
shown commas c = if is_escaped commas c then octal c else c ∷ []

-- Octets as they are shown.
abbrev pub escaped : Bool → List ℕ → List ℕ
escaped commas octets = flat_map (shown commas) octets

-- A field with a comma behind it.
abbrev pub comma_then : List ℕ → List ℕ
comma_then field = field ++ 44 ∷ []

-- A session as fields with commas between them: user, port, when it began in seconds since 1970, NAS, the user's address
-- and the session's identifier.
unfoldable pub raw_line : Session → List ℕ
raw_line s =
    comma_then (escaped true s.user) ++ (comma_then (decimal s.port) ++ (comma_then (decimal s.since) ++ (comma_then (dotted s.nas) ++ (comma_then (dotted s.framed) ++ (escaped true s.id ++ 10 ∷ [])))))

-- When a session began, as a date; as a number where it is later than dates are shown.
abbrev pub since_text : ℕ → List ℕ
since_text since = if nat_le since last_moment then date_time_text (date_of since) else decimal since

-- The user at the left of 20 places, and a blank, as stands behind each column.
unfoldable pub user_column : List ℕ → List ℕ
user_column user = left_in 20 (escaped false user) ++ 32 ∷ []

-- The port at the right of 10 places, and a blank.
unfoldable pub port_column : ℕ → List ℕ
port_column port = right_in 32 10 (decimal port) ++ 32 ∷ []

-- When the session began, and a blank.
unfoldable pub since_column : ℕ → List ℕ
since_column since = since_text since ++ 32 ∷ []

-- An address at the left of 15 places, and a blank.
unfoldable pub address_column : ℕ → List ℕ
address_column address = left_in 15 (dotted address) ++ 32 ∷ []

-- A session in columns, and then its identifier.
unfoldable pub column_line : Session → List ℕ
column_line s =
    user_column s.user ++ (port_column s.port ++ (since_column s.since ++ (address_column s.nas ++ (address_column s.framed ++ (escaped false s.id ++ 10 ∷ [])))))

-- The user's name is the one that is wanted, without regard to the case of ASCII letters.
abbrev pub has_user : Option (List ℕ) → List ℕ → Bool
has_user None name = true
has_user (Some user) name = bytes_eq (map to_ascii_lowercase user) (map to_ascii_lowercase name)

-- The NAS is the one that is wanted.
abbrev pub has_nas : Option ℕ → ℕ → Bool
has_nas None nas = true
has_nas (Some wanted) nas = wanted == nas

-- The session is among those that are wanted.
abbrev pub is_wanted : Wanted → Session → Bool
is_wanted wanted session = has_user wanted.user session.user && has_nas wanted.nas session.nas

-- The line of a session.
abbrev pub line_of : Wanted → Session → List ℕ
line_of wanted session = if wanted.is_raw then raw_line session else column_line session

-- The line of a session that is wanted; others have none.
abbrev pub line_if : Wanted → Session → List ℕ
line_if wanted session = if is_wanted wanted session then line_of wanted session else []

-- The lines of the sessions that are wanted, in their order.
unfoldable pub lines_of : Wanted → List Session → List ℕ
lines_of wanted sessions = flat_map (line_if wanted) sessions

-- The line of a session that there may be. This serves private clauses.
abbrev pub line_at : Wanted → Option Session → List ℕ
line_at wanted None = []
line_at wanted (Some session) = line_if wanted session

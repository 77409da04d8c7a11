-- The log of changes: a line for each, between a line `~` before it and its own newline, so that what a failed write has
-- left of a line stands on no other line. This project's own.
use Rattle.std.specs.Prelude.{ℕ, suc, ◌+◌, ◌*◌, ◌/◌, ◌%◌, ◌==◌, List, [], ◌∷◌, ◌++◌, length, take, drop, Option, Some, None, codes, nat_lt, if◌then◌else◌}
use Rattle.std.specs.Fmt.{decimal}
use Rattle.std.specs.Char.{digit_value, digit_char}
use Rattle.std.specs.Str.{bytes_eq}
use Rattle.std.specs.List.{fold}
use Rattle.std.specs.Option.{option_map}
use Rattle.rad_text.specs.Find.{◌>>=◌}
use Rattle.rad_text.specs.Numerals.{number_of}
use Rattle.rad_text.specs.Addresses.{address_of, dotted}
use Rattle.rad_sessions.specs.declared.session.Session.{Session}
use Rattle.rad_sessions.specs.declared.change.Change.{Change}
use Rattle.rad_sessions.specs.declared.change.Change.TheVariants.{Begin, Renew, End, Clear}
use Rattle.rad_sessions.specs.Listed.{after, is_too_many}

-- Octets as hexadecimal digits, two an octet, in lower case.
abbrev pub hex_of : List ℕ → List ℕ
hex_of [] = []
hex_of (b ∷ octets) = digit_char (b / 16) ∷ digit_char (b % 16) ∷ hex_of octets

-- The same, with `-` for no octets.
abbrev pub hex_word : List ℕ → List ℕ
hex_word [] = 45 ∷ []
hex_word (b ∷ octets) = hex_of (b ∷ octets)

-- A word, and behind a blank what follows it.
abbrev pub word_then : List ℕ → List ℕ → List ℕ
word_then word rest = word ++ 32 ∷ rest

-- How each line ends: with a dot that says that it is whole.
abbrev pub dot : List ℕ
dot = 46 ∷ []

-- The fields of a session, with a blank behind each.
abbrev pub fields_of : Session → List ℕ
fields_of s = word_then (dotted s.nas) (word_then (decimal s.port) (word_then (dotted s.framed) (word_then (decimal s.since) (word_then (hex_word s.user) (word_then (hex_word s.id) dot)))))

-- A change as a line, without its newline: its word, its fields, and a dot, with a blank between two of them.
unfoldable pub line_of : Change → List ℕ
line_of (Begin session) = word_then (codes "begin") (fields_of session)
line_of (Renew nas port framed) = word_then (codes "renew") (word_then (dotted nas) (word_then (decimal port) (word_then (dotted framed) dot)))
line_of (End nas port) = word_then (codes "end") (word_then (dotted nas) (word_then (decimal port) dot))
line_of (Clear nas) = word_then (codes "clear") (word_then (dotted nas) dot)

-- What is appended for a change: a line `~`, which ends what stands there unended, and the change's line.
abbrev pub piece_of : Change → List ℕ
piece_of change = 126 ∷ 10 ∷ (line_of change ++ 10 ∷ [])

-- How many octets stand before the first mark; all of them where there is none.
unfoldable pub mark_at : ℕ → List ℕ → ℕ
mark_at mark [] = 0
mark_at mark (c ∷ rest) = if c == mark then 0 else suc (mark_at mark rest)

-- The octets before the first mark, and those behind it; nothing where there is no mark.
unfoldable pub cut_at : ℕ → List ℕ → Option (List ℕ × List ℕ)
cut_at mark text = if nat_lt (mark_at mark text) (length text) then Some (take (mark_at mark text) text, drop (mark_at mark text + 1) text) else None

-- An octet in front of the first line; in front of no line it stands on none.
abbrev pub onto_line : ℕ → List (List ℕ) → List (List ℕ)
onto_line c [] = []
onto_line c (line ∷ lines) = (c ∷ line) ∷ lines

-- The lines that a newline ends; what stands behind the last newline is none.
unfoldable pub whole_lines : List ℕ → List (List ℕ)
whole_lines [] = []
whole_lines (c ∷ rest) = if c == 10 then [] ∷ whole_lines rest else onto_line c (whole_lines rest)

-- The number behind n that digits write, in 64 bits.
unfoldable pub seconds_after : ℕ → List ℕ → ℕ
seconds_after n [] = n
seconds_after n (c ∷ rest) = seconds_after ((n * 10 + digit_value c) % 18446744073709551616) rest

-- The octets that pairs of hexadecimal digits write.
unfoldable pub octets_of : List ℕ → List ℕ
octets_of [] = []
octets_of (a ∷ []) = []
octets_of (a ∷ b ∷ rest) = (digit_value a * 16 + digit_value b) % 256 ∷ octets_of rest

-- The address that the first word writes, and what is behind it.
unfoldable pub address_at : List ℕ → Option (ℕ × List ℕ)
address_at text = do
  word ← cut_at 32 text
  address ← address_of word.0
  Some (address, word.1)

-- The number of 32 bits that the first word writes, and what is behind it.
unfoldable pub number_at : List ℕ → Option (ℕ × List ℕ)
number_at text = do
  word ← cut_at 32 text
  number ← number_of 10 word.0
  Some (number, word.1)

-- What the fields of each kind of line would say, if they are written so.
unfoldable pub session_at : List ℕ → Option Session
session_at text = do
  nas ← address_at text
  port ← number_at nas.1
  framed ← address_at port.1
  since ← cut_at 32 framed.1
  user ← cut_at 32 since.1
  id ← cut_at 32 user.1
  Some (record { nas = nas.0; port = port.0; framed = framed.0; since = seconds_after 0 since.0; user = octets_of user.0; id = octets_of id.0 })

-- The change of a text behind `begin `.
abbrev pub begin_at : List ℕ → Option Change
begin_at text = option_map Begin (session_at text)

-- The change of a text behind `renew `: NAS, port and framed address.
unfoldable pub renew_at : List ℕ → Option Change
renew_at text = do
  nas ← address_at text
  port ← number_at nas.1
  framed ← address_at port.1
  Some (Renew nas.0 port.0 framed.0)

-- The change of a text behind `end `: NAS and port.
unfoldable pub end_at : List ℕ → Option Change
end_at text = do
  nas ← address_at text
  port ← number_at nas.1
  Some (End nas.0 port.0)

-- The change of a text behind `clear `: the NAS.
unfoldable pub clear_at : List ℕ → Option Change
clear_at text = do
  nas ← address_at text
  Some (Clear nas.0)

-- What a line would say behind a word that begins with this octet.
unfoldable pub fields_at : ℕ → List ℕ → Option Change
fields_at c rest = if c == 98 then begin_at rest else if c == 114 then renew_at rest else if c == 101 then end_at rest else if c == 99 then clear_at rest else None

-- What a line would say by the first octet of its word and the fields behind that, if it is written so.
unfoldable pub guess_of : List ℕ → Option Change
guess_of line = do
  word ← cut_at 32 line
  elim word.0 [ [] ↦ None | c ∷ others ↦ fields_at c word.1 ]

-- The change, where the line is written exactly as the change's.
abbrev pub if_written : List ℕ → Change → Option Change
if_written line change = if bytes_eq (line_of change) line then Some change else None

-- The change that a line says: the one that is written as exactly this line. Other lines say nothing.
unfoldable pub change_of : List ℕ → Option Change
change_of line = guess_of line >>= if_written line

-- The sessions after what a line says; a line that says nothing, or would add a session to as many as may stand, changes
-- nothing.
abbrev pub after_said : List Session → Option Change → List Session
after_said sessions None = sessions
after_said sessions (Some change) = if is_too_many sessions change then sessions else after sessions change

-- The sessions after a line: one that says no change leaves them.
abbrev pub after_line : List Session → List ℕ → List Session
after_line sessions line = after_said sessions (change_of line)

-- The sessions after the lines of a log.
abbrev pub folded_onto : List Session → List ℕ → List Session
folded_onto sessions octets = fold after_line sessions (whole_lines octets)

-- The sessions of a log.
abbrev pub folded : List ℕ → List Session
folded octets = folded_onto [] octets

-- The text of an expansion, read into its parts; after unlang(5), 'String expansion'. A part in braces is read a level
-- deeper than the part that it stands in, by a reader that is handed in. What is wrong is found in reading order, and is told
-- by how many octets are left from the `%` of its part on. The forms and the limit are this project's own.
use Rattle.std.specs.Prelude.{ℕ, zero, suc, Bool, true, false, ◌==◌, List, [], ◌∷◌, length, take, drop, slice_index, Option, Some, None, Result, Ok, Err, if◌then◌else◌}
use Rattle.std.specs.Option.{is_some, option_map}
use Rattle.rad_dict.specs.Definitions.{Definitions}
use Rattle.rad_text.specs.Read.{Read, ◌>>=◌, found}
use Rattle.unlang_xlat.specs.declared.fault.Wrong.{Wrong}
use Rattle.unlang_xlat.specs.declared.fault.Wrong.TheVariants.{BadExpansion, UnknownFunction}
use Rattle.unlang_xlat.specs.declared.part.DatePart.{DatePart}
use Rattle.unlang_xlat.specs.declared.part.Part.{Part}
use Rattle.unlang_xlat.specs.declared.part.Part.TheVariants as part
use Rattle.unlang_xlat.specs.Spans.{len_before, plain_len, behind, behind_sign}
use Rattle.unlang_xlat.specs.Words.{date_part, function_named, is_list, referenced, word_part}

-- How the front of a text is read as a part.
abbrev pub Reader : Type 0
Reader = List ℕ → Read Part Wrong

-- A `%` stands at the front.
abbrev pub begins_part : List ℕ → Bool
begins_part text = slice_index text 0 == 37

-- The part whose `%` stands at the front: `%%`, a part in braces, or a letter.
unfoldable pub part_at : Reader → Reader
part_at braced [] = Err (BadExpansion 0)
part_at braced (c ∷ []) = Err (BadExpansion 1)
part_at braced (c ∷ d ∷ rest) =
    if d == 37 then Ok (part.Percent, rest)
    else (if d == 123 then braced (c ∷ d ∷ rest)
    else found (BadExpansion (length (c ∷ d ∷ rest))) (option_map (λ (date : DatePart). (part.Date date, rest)) (date_part d)))

-- Plain text of so many octets.
abbrev pub plain_of : ℕ → Reader
plain_of len text = Ok (part.Plain (take len text), drop len text)

-- The part or the plain text at the front, which isn't empty.
unfoldable pub piece_at : Reader → Bool → Reader
piece_at braced inside [] = Err (BadExpansion 0)
piece_at braced inside (c ∷ rest) = if c == 37 then part_at braced (c ∷ rest) else plain_of (suc (plain_len inside rest)) (c ∷ rest)

-- Whether the octet closes the part that is open, where one is.
abbrev pub closes : Option ℕ → ℕ → Bool
closes None c = false
closes (Some left) c = c == 125

-- No more parts at the text's end, where an open part is wrong.
abbrev pub ended : Option ℕ → Read (List Part) Wrong
ended None = Ok ([], [])
ended (Some left) = Err (BadExpansion left)

-- A part before others.
abbrev pub before : Part → Read (List Part) Wrong → Read (List Part) Wrong
before one more = more >>= λ parts. Ok (one ∷ parts.0, parts.1)

-- The parts up to the brace that closes the open part, or up to the text's end where none is open. Each part takes an octet at
-- least, so that as many turns as the text has octets are enough.
unfoldable pub parts_in : Reader → Option ℕ → ℕ → List ℕ → Read (List Part) Wrong
parts_in braced outer turns [] = ended outer
parts_in braced outer zero (c ∷ rest) = Err (BadExpansion 0)
parts_in braced outer (suc turns) (c ∷ rest) =
    if closes outer c then Ok ([], rest) else (piece_at braced (is_some outer) (c ∷ rest) >>= λ one. before one.0 (parts_in braced outer turns one.1))

-- The second side of an alternative: a part or plain text, which may be empty.
unfoldable pub second_at : Reader → Reader
second_at braced text = if begins_part text then part_at braced text else plain_of (plain_len true text) text

-- `%{A:-B}` from its first part on: of the whole so many octets are left.
unfoldable pub alternative_at : Reader → ℕ → Reader
alternative_at braced left body = do
  first ← part_at braced body
  sign ← found (BadExpansion left) (behind_sign first.1)
  second ← second_at braced sign
  rest ← found (BadExpansion left) (behind 125 second.1)
  Ok (part.Alternative first.0 second.0, rest)

-- `%{NAME:x}` from its text on: of the whole so many octets are left.
unfoldable pub call_at : Reader → ℕ → List ℕ → Reader
call_at braced left name text = do
  function ← found (UnknownFunction left) (function_named name)
  parts ← parts_in braced (Some left) (length text) text
  Ok (part.Call function parts.0, parts.1)

-- `%{list:Attr[place]}` from the list on: of the whole so many octets are left.
unfoldable pub listed_at : ℕ → List ℕ → Definitions → Read Part Wrong
listed_at left body dict = do
  rest ← found (BadExpansion left) (behind 125 (drop (len_before 125 125 body) body))
  one ← referenced left (take (len_before 125 125 body) body) dict
  Ok (one, rest)

-- A word that stands alone in its braces, and what follows them.
abbrev pub alone_at : ℕ → List ℕ → List ℕ → Definitions → Read Part Wrong
alone_at left word rest dict = word_part left word dict >>= λ one. Ok (one, rest)

-- What stands behind the name at the front of a part in braces: the brace that closes it, or a colon, behind which the name of
-- a list has an attribute and every other name is a function's.
abbrev pub behind_name : Reader → ℕ → List ℕ → Definitions → List ℕ → List ℕ → Read Part Wrong
behind_name braced left body dict name [] = Err (BadExpansion left)
behind_name braced left body dict name (c ∷ rest) =
    if c == 125 then alone_at left name rest dict
    else (if is_list name then listed_at left body dict else call_at braced left name rest)

-- A part in braces that begins with a name, from the name on: of the whole so many octets are left. The name ends at a colon
-- or a brace.
unfoldable pub named_at : Reader → ℕ → List ℕ → Definitions → Read Part Wrong
named_at braced left body dict = behind_name braced left body dict (take (len_before 58 125 body) body) (drop (len_before 58 125 body) body)

-- A part in braces, from behind the brace on: of the whole so many octets are left.
abbrev pub body_at : Reader → Definitions → ℕ → List ℕ → Read Part Wrong
body_at braced dict left body = if begins_part body then alternative_at braced left body else named_at braced left body dict

-- A part in braces, from its `%` on, with so many levels left, its own among them.
unfoldable pub braced : Definitions → ℕ → Reader
braced dict zero text = Err (BadExpansion (length text))
braced dict (suc levels) text = body_at (braced dict levels) dict (length text) (drop 2 text)

-- The parts of a whole text, with 32 levels of braces.
abbrev pub parts_of : List ℕ → Definitions → Result (List Part) Wrong
parts_of text dict = parts_in (braced dict 32) None (length text) text >>= λ parts. Ok parts.0

-- Words, blanks and comments. After the manual page radiusd.conf(5).
use Rattle.std.specs.Prelude.{ℕ, ◌+◌, ◌-◌, Bool, true, false, ◌&&◌, ◌||◌, not, ◌==◌, nat_lt, List, [], ◌∷◌, ◌++◌, take, drop, slice_index, Option, Some, None, Result, Ok, Err, codes, if◌then◌else◌}
use Rattle.std.specs.Str.{str_eq_ignore_ascii_case}
use Rattle.rad_conf.specs.declared.fault.Wrong.{Wrong}
use Rattle.rad_conf.specs.declared.fault.Wrong.TheVariants as wrong
use Rattle.rad_conf.specs.declared.sign.Sign.{Sign}
use Rattle.rad_conf.specs.declared.sign.Sign.TheVariants as sign
use Rattle.rad_conf.specs.declared.tree.Word.{Word}
use Rattle.rad_conf.specs.declared.tree.Quote.{Quote}
use Rattle.rad_conf.specs.declared.tree.Quote.TheVariants.{Bare, Single, Double}
use Rattle.rad_conf.specs.declared.spelling.Spelling.{Spelling}
use Rattle.rad_conf.specs.declared.spelling.Spelling.TheVariants as spelling
use Rattle.rad_conf.specs.declared.spelling.Ahead.{Ahead}
use Rattle.rad_conf.specs.declared.spelling.Ahead.TheVariants.{Reads, Escaped, Passes}
use Rattle.rad_conf.specs.declared.growth.Growth.{Growth}
use Rattle.rad_text.specs.Read.{◌>>=◌, found}
use Rattle.rad_conf.specs.Signs.{sign_at, bare_octets, variable_at}
use Rattle.rad_conf.specs.Variables.{value_of}

-- How many octets of a bare word are left where so many are passed over: those, else what begins here.
abbrev pub bare_left : ℕ → List ℕ → ℕ
bare_left passed text = if passed == 0 then bare_octets (sign_at text) else passed

-- How many octets the bare word at the front has, of which so many are passed over: it goes on up to the next sign.
unfoldable pub bare_len : ℕ → List ℕ → ℕ
bare_len passed [] = 0
bare_len passed (c ∷ rest) = if bare_left passed (c ∷ rest) == 0 then 0 else bare_len (bare_left passed (c ∷ rest) - 1) rest + 1

-- The octets of the bare word at the front, as they stand.
abbrev pub bare_text : List ℕ → List ℕ
bare_text text = take (bare_len 0 text) text

-- How many octets stand before the quote that closes, on this line: behind so many, and perhaps behind a backslash. The octet
-- behind a backslash closes nothing.
unfoldable pub quoted_from : ℕ → ℕ → Bool → List ℕ → Option ℕ
quoted_from quote len escaped [] = None
quoted_from quote len escaped (c ∷ rest) =
    if c == 10 then None
    else (if c == quote && not escaped then Some len
    else quoted_from quote (len + 1) (c == 92 && not escaped) rest)

-- How many octets stand before the quote that closes a text, behind the one that opened it; none where the line has none.
abbrev pub quoted_len : ℕ → List ℕ → Option ℕ
quoted_len quote text = quoted_from quote 0 false text

-- What a backslash and an octet stand for: in double quotes `\"`, `\\`, `\n`, `\r` and `\t`, in single quotes `\'` and `\\`. All others
-- stay as written, and so do all of a text that is kept.
abbrev pub escape_of : Spelling → ℕ → List ℕ
escape_of spelling.Plain c = 92 ∷ c ∷ []
escape_of spelling.Single c = if c == 39 || c == 92 then c ∷ [] else 92 ∷ c ∷ []
escape_of spelling.Double c =
    if c == 34 || c == 92 then c ∷ []
    else (if c == 110 then 10 ∷ []
    else (if c == 114 then 13 ∷ []
    else (if c == 116 then 9 ∷ []
    else 92 ∷ c ∷ [])))
escape_of spelling.Kept c = 92 ∷ c ∷ []

-- Whether a backslash takes the octet behind it along.
abbrev pub has_escapes : Spelling → Bool
has_escapes spelling.Plain = false
has_escapes spelling.Single = true
has_escapes spelling.Double = true
has_escapes spelling.Kept = true

-- Whether variables are replaced.
abbrev pub has_variables : Spelling → Bool
has_variables spelling.Plain = true
has_variables spelling.Single = false
has_variables spelling.Double = true
has_variables spelling.Kept = true

-- Of so many octets that are passed over one is behind.
abbrev pub passing : ℕ → Ahead
passing len = if nat_lt 1 len then Passes (len - 1) else Reads

-- The variable at the front, where variables are replaced, by the length of its name.
abbrev pub variable_in : Spelling → List ℕ → Option ℕ
variable_in how text = if has_variables how then variable_at text else None

-- The value of the variable at the front, by the length of its name, and how many octets behind its first are passed over with it.
abbrev pub variable_part : Growth → ℕ → List ℕ → Result (List ℕ × ℕ) Wrong
variable_part growth len text = found wrong.NoVariable (value_of growth (take len (drop 2 text))) >>= (λ (value : List ℕ). Ok (value, len + 2))

-- A part behind what was read before.
abbrev pub behind : List ℕ → Result (List ℕ × ℕ) Wrong → Result (List ℕ × ℕ) Wrong
behind out (Ok part) = Ok (out ++ part.0, part.1)
behind out (Err e) = Err e

-- What an octet at the front adds where nothing stands before it that takes it along.
abbrev pub reads : Growth → Spelling → List ℕ → List ℕ → Result (List ℕ × Ahead) Wrong
reads growth how out text =
    if has_escapes how && slice_index text 0 == 92 then Ok (out, Escaped)
    else elim (variable_in how text) [
      | None ↦ Ok (out ++ slice_index text 0 ∷ [], Reads)
      | Some len ↦ behind out (variable_part growth len text) >>= (λ (part : List ℕ × ℕ). Ok (part.0, Passes part.1))
    ]

-- What an octet adds to a text, and how the next one is taken.
abbrev pub spelled_by : Growth → Spelling → List ℕ → Ahead → List ℕ → Result (List ℕ × Ahead) Wrong
spelled_by growth how out Reads text = reads growth how out text
spelled_by growth how out Escaped text = Ok (out ++ escape_of how (slice_index text 0), Reads)
spelled_by growth how out (Passes len) text = Ok (out, passing len)

-- The text that octets spell, behind what they spelled so far. A replaced value isn't read again.
unfoldable pub spelled_from : Growth → Spelling → List ℕ → Ahead → List ℕ → Result (List ℕ) Wrong
spelled_from growth how out ahead [] = Ok out
spelled_from growth how out ahead (c ∷ rest) =
    spelled_by growth how out ahead (c ∷ rest) >>= (λ (next : List ℕ × Ahead). spelled_from growth how next.0 next.1 rest)

-- The text that a word spells.
abbrev pub spelled : Growth → Spelling → List ℕ → Result (List ℕ) Wrong
spelled growth how raw = spelled_from growth how [] Reads raw

-- The bare word at the front, and what follows it.
unfoldable pub bare_word : Growth → List ℕ → Result (Word × List ℕ) Wrong
bare_word growth text = do
  all ← spelled growth spelling.Plain (bare_text text)
  Ok (record { quote = Bare; text = all }, drop (bare_len 0 text) text)

-- The word behind a quote, and what follows the quote that closes it.
unfoldable pub quoted_word : Growth → Quote → Spelling → ℕ → List ℕ → Result (Word × List ℕ) Wrong
quoted_word growth quote how mark text = elim (quoted_len mark text) [
  | None ↦ Err wrong.BadQuote
  | Some len ↦ spelled growth how (take len text) >>= (λ (all : List ℕ). Ok (record { quote = quote; text = all }, drop (len + 1) text))
]

-- The word that a sign begins.
abbrev pub word_by : Growth → Sign → List ℕ → Result (Word × List ℕ) Wrong
word_by growth sign.End text = Err wrong.Stray
word_by growth sign.Blank text = Err wrong.Stray
word_by growth sign.LineEnd text = Err wrong.Stray
word_by growth sign.Comma text = Err wrong.Stray
word_by growth sign.Open text = Err wrong.Stray
word_by growth sign.Close text = Err wrong.Stray
word_by growth sign.Comment text = Err wrong.Stray
word_by growth sign.Double text = quoted_word growth Double spelling.Double 34 (drop 1 text)
word_by growth sign.Single text = quoted_word growth Single spelling.Single 39 (drop 1 text)
word_by growth (sign.Operator len) text = Err wrong.Stray
word_by growth (sign.Bare len) text = bare_word growth text

-- The word at the front, and what follows it.
unfoldable pub word_at : Growth → List ℕ → Result (Word × List ℕ) Wrong
word_at growth text = word_by growth (sign_at text) text

-- A comment goes on to the line's end, which is left to stand.
unfoldable pub after_comment : List ℕ → List ℕ
after_comment [] = []
after_comment (c ∷ rest) = if c == 10 then c ∷ rest else after_comment rest

-- The words before a condition.
unfoldable pub is_condition : List ℕ → Bool
is_condition word = str_eq_ignore_ascii_case word (codes "if") || str_eq_ignore_ascii_case word (codes "elsif")

-- Conditions: the text from a `(` to its matching `)`. Quotes and patterns in it are passed over, and variables are replaced but in
-- single quotes and patterns. After the manual page unlang(5).
use Rattle.std.specs.Prelude.{ℕ, ◌+◌, ◌-◌, Bool, false, ◌&&◌, ◌||◌, ◌==◌, List, [], ◌∷◌, ◌++◌, take, drop, slice_index, Some, None, Result, Ok, Err, if◌then◌else◌}
use Rattle.rad_conf.specs.declared.fault.Wrong.{Wrong}
use Rattle.rad_conf.specs.declared.fault.Wrong.TheVariants as wrong
use Rattle.rad_conf.specs.declared.spelling.Spelling.TheVariants as spelling
use Rattle.rad_conf.specs.declared.growth.Growth.{Growth}
use Rattle.rad_conf.specs.Signs.{operator_at, variable_at}
use Rattle.rad_text.specs.Read.{◌>>=◌}
use Rattle.rad_conf.specs.Words.{behind, quoted_len, spelled, variable_part}

-- A double-quoted text behind its quote, whose variables are replaced and whose escapes stay as written; and how many octets of
-- it, with the quote that closes, are passed over.
abbrev pub double_part : Growth → List ℕ → Result (List ℕ × ℕ) Wrong
double_part growth text = elim (quoted_len 34 text) [
  | None ↦ Err wrong.BadQuote
  | Some len ↦ spelled growth spelling.Kept (take len text) >>= (λ (kept : List ℕ). Ok (34 ∷ (kept ++ 34 ∷ []), len + 1))
]

-- A single-quoted text stays as it is.
abbrev pub single_part : List ℕ → Result (List ℕ × ℕ) Wrong
single_part text = elim (quoted_len 39 (drop 1 text)) [
  | None ↦ Err wrong.BadQuote
  | Some len ↦ Ok (take (len + 2) text, len + 1)
]

-- A pattern stays as it is; a slash that none closes on its line begins none.
abbrev pub pattern_part : List ℕ → Result (List ℕ × ℕ) Wrong
pattern_part text = elim (quoted_len 47 (drop 1 text)) [
  | None ↦ Ok (take 1 text, 0)
  | Some len ↦ Ok (take (len + 2) text, len + 1)
]

-- A variable, else an operator or an octet, which stay as they are.
abbrev pub other_part : Growth → List ℕ → Result (List ℕ × ℕ) Wrong
other_part growth text = elim (variable_at text) [
  | Some len ↦ variable_part growth len text
  | None ↦ if operator_at (slice_index text 0) (slice_index text 1) == 2 then Ok (slice_index text 0 ∷ slice_index text 1 ∷ [], 1) else Ok (slice_index text 0 ∷ [], 0)
]

-- What stands for the part of a condition at the front, and how many octets behind its first are passed over with it. A pattern
-- may begin only behind its operator.
unfoldable pub part_at : Growth → Bool → List ℕ → Result (List ℕ × ℕ) Wrong
part_at growth awaits text =
    if slice_index text 0 == 34 then double_part growth (drop 1 text)
    else (if slice_index text 0 == 39 then single_part text
    else (if slice_index text 0 == 47 && awaits then pattern_part text
    else other_part growth text))

-- Whether a pattern may begin behind the part at the front: behind `=~`, `!~` and the blanks after them.
unfoldable pub awaits_after : Bool → List ℕ → Bool
awaits_after awaits text =
    (operator_at (slice_index text 0) (slice_index text 1) == 2 && slice_index text 1 == 126) || ((slice_index text 0 == 32 || slice_index text 0 == 9) && awaits)

-- How many parentheses are open behind an octet.
unfoldable pub depth_after : ℕ → ℕ → ℕ
depth_after c depth = if c == 40 then depth + 1 else (if c == 41 then depth - 1 else depth)

-- How many lines have ended behind an octet.
abbrev pub line_after : ℕ → ℕ → ℕ
line_after c lines = if c == 10 then lines + 1 else lines

-- A condition behind what was read of it: under so many open parentheses, over so many lines, perhaps where a pattern may begin, and
-- passing over so many octets. What follows it is given with its text and its lines.
unfoldable pub condition_from : Growth → List ℕ → ℕ → ℕ → Bool → ℕ → List ℕ → Result (List ℕ × ℕ × List ℕ) Wrong
condition_from growth out depth lines awaits passed [] = Err wrong.Stray
condition_from growth out depth lines awaits passed (c ∷ rest) =
    if passed == 0
    then behind out (part_at growth awaits (c ∷ rest)) >>= (λ (part : List ℕ × ℕ).
    if c == 41 && depth_after c depth == 0 then Ok (part.0, lines, rest)
    else condition_from growth part.0 (depth_after c depth) (line_after c lines) (awaits_after awaits (c ∷ rest)) part.1 rest)
    else condition_from growth out depth lines awaits (passed - 1) rest

-- The condition at the front, how many lines end in it, and what follows it.
unfoldable pub condition_at : Growth → List ℕ → Result (List ℕ × ℕ × List ℕ) Wrong
condition_at growth text = if slice_index text 0 == 40 then condition_from growth [] 0 0 false 0 text else Err wrong.Stray

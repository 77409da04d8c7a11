-- The words of a line of a dictionary file, which blanks part. After the manual page dictionary(5) of FreeRADIUS; that a
-- `#` begins a comment anywhere, within a word too, is this project's own.
use Rattle.std.specs.Prelude.{ℕ, suc, Bool, true, false, ◌||◌, ◌==◌, List, [], ◌∷◌, take, drop, Option, Some, None, if◌then◌else◌}
use Rattle.std.specs.Option.{is_none}
use Rattle.rad_text.specs.Blanks.{is_blank, after_blanks}

-- A word ends at a blank and at a comment.
abbrev pub ends_word : ℕ → Bool
ends_word c = is_blank c || c == 35

-- How many octets the word at the front has.
unfoldable pub word_len : List ℕ → ℕ
word_len [] = 0
word_len (c ∷ rest) = if ends_word c then 0 else suc (word_len rest)

-- The word at the front, and what follows it; none where a comment or the line's end stands there.
abbrev pub word_behind_blanks : List ℕ → Option (List ℕ × List ℕ)
word_behind_blanks text = if word_len text == 0 then None else Some (take (word_len text) text, drop (word_len text) text)

-- The first word behind the blanks, and what follows it; none where only blanks and a comment are left.
unfoldable pub word_at : List ℕ → Option (List ℕ × List ℕ)
word_at text = word_behind_blanks (after_blanks text)

-- No word is left.
abbrev pub is_ended : List ℕ → Bool
is_ended text = is_none (word_at text)

-- Whether one more word stands there and nothing behind it; none where more than one does.
unfoldable pub last_at : List ℕ → Option Bool
last_at text = elim (word_at text) [
  | None ↦ Some false
  | Some last ↦ if is_ended last.1 then Some true else None
]

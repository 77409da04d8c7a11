-- The lines of a users file, by their first octets. After users(5).
use Rattle.std.specs.Prelude.{ℕ, Bool, true, false, not, ◌||◌, ◌==◌, List, [], ◌∷◌, find, Option, Some, if◌then◌else◌}
use Rattle.std.specs.Option.{option_map, option_map_or}
use Rattle.std.specs.List.{before_first, after_first}
use Rattle.rad_text.specs.Blanks.{is_blank}
use Rattle.rad_pairs.specs.Words.{word_at}
pub use Rattle.rad_text.specs.Lines.{lines_of}

-- A line is passed over where it has nothing but blanks, or behind them a comment.
abbrev pub is_passed : List ℕ → Bool
is_passed line = option_map_or (λ c. c == 35) (find (λ c. not (is_blank c)) line) true

-- An indented line begins with a blank.
abbrev pub is_indented : List ℕ → Bool
is_indented [] = false
is_indented (c ∷ rest) = is_blank c

-- Whether a line begins with a quote.
abbrev pub is_quoted : List ℕ → Bool
is_quoted [] = false
is_quoted (c ∷ rest) = c == 34 || c == 39

-- The name at the front of an entry's first line, whether a blank stands behind it, and what follows. A name in quotes ends
-- at its quote, and none is read where that isn't closed on the line; another one ends at a blank.
unfoldable pub head_of : List ℕ → Option (List ℕ × Bool × List ℕ)
head_of line =
    if is_quoted line then option_map (λ (word : List ℕ × List ℕ). (word.0, false, word.1)) (word_at line)
    else Some (before_first is_blank line, true, after_first is_blank line)

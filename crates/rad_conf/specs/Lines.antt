-- The lines of a text, with those that are joined as one. After the manual page radiusd.conf(5); a carriage return directly before a
-- newline belongs to the line's end, which is this project's own.
use Rattle.std.specs.Prelude.{ℕ, ◌+◌, Bool, true, false, ◌&&◌, ◌||◌, ◌==◌, List, [], ◌∷◌, ◌++◌, replicate, slice_index, if◌then◌else◌}

-- Whether a line's end stands at the front: a newline, or a carriage return directly before one.
unfoldable pub is_line_end : List ℕ → Bool
is_line_end text = slice_index text 0 == 10 || (slice_index text 0 == 13 && slice_index text 1 == 10)

-- The text of joined lines, after so many lines that were joined already, and perhaps behind the backslash that joins one more.
-- The backslash and the line's end that joins are left out, and as many newlines stand where the joined line ends: so each line
-- begins at its own number, and all that stands on joined lines has the number of the first of them.
unfoldable pub lines_from : ℕ → Bool → List ℕ → List ℕ
lines_from joined inside [] = replicate joined 10
lines_from joined true (c ∷ rest) = if c == 10 then lines_from (joined + 1) false rest else lines_from joined true rest
lines_from joined false (c ∷ rest) =
    if c == 92 && is_line_end rest then lines_from joined true rest
    else (if c == 13 && slice_index rest 0 == 10 then lines_from joined false rest
    else (if c == 10 then replicate (joined + 1) 10 ++ lines_from 0 false rest
    else c ∷ lines_from joined false rest))

-- The lines of a text.
abbrev pub lines_of : List ℕ → List ℕ
lines_of text = lines_from 0 false text

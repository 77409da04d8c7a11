-- The lines of a text, which newlines end. A carriage return directly before a newline belongs to the line's end, and is
-- an octet like another anywhere else. This project's own, after the editors that write such texts.
use Rattle.std.specs.Prelude.{ℕ, suc, Bool, true, not, ◌&&◌, ◌||◌, ◌==◌, List, [], ◌∷◌, drop, slice_index, Option, Some, None, if◌then◌else◌}
use Rattle.std.specs.Option.{is_some}
use Rattle.std.specs.List.{onto_first}

-- A carriage return, directly before a newline.
abbrev pub is_return : ℕ → List ℕ → Bool
is_return c rest = c == 13 && slice_index rest 0 == 10

-- The lines, without their ends; behind the last newline a line begins only where something follows.
unfoldable pub lines_of : List ℕ → List (List ℕ)
lines_of [] = []
lines_of (c ∷ rest) =
    if c == 10 then [] ∷ lines_of rest
    else (if is_return c rest then lines_of rest else onto_first c (lines_of rest))

-- What follows the line end at the front, where one stands there.
unfoldable pub after_line_end : List ℕ → Option (List ℕ)
after_line_end [] = None
after_line_end (c ∷ rest) = if c == 10 then Some rest else (if is_return c rest then Some (drop 1 rest) else None)

-- How many octets the first line has, without its end.
unfoldable pub line_len : List ℕ → ℕ
line_len [] = 0
line_len (c ∷ rest) = if is_some (after_line_end (c ∷ rest)) then 0 else suc (line_len rest)

-- Octets that can be written as one line: no newline stands among them, and no carriage return at their end.
abbrev pub is_line : List ℕ → Bool
is_line [] = true
is_line (c ∷ []) = not (c == 10 || c == 13)
is_line (c ∷ d ∷ rest) = not (c == 10) && is_line (d ∷ rest)

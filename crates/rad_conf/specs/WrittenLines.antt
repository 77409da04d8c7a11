-- How lines are written, apart from how they are read. After the manual page radiusd.conf(5); that a carriage return directly before a
-- newline belongs to the line's end is this project's own.
use Rattle.std.specs.Prelude.{◌≡◌, ℕ, Bool, true, false, ◌||◌, ◌==◌, List, [], ◌∷◌, ◌++◌, if◌then◌else◌}
use Rattle.rad_conf.specs.Lines.{lines_of}
use Rattle.rad_conf.specs.Grammar.{lacks}

-- Whether a text can stand on a line of its own: it has no newline, and ends neither in a carriage return nor in a backslash.
unfoldable pub is_line : List ℕ → Bool
is_line [] = true
is_line (c ∷ []) = if c == 10 || c == 13 || c == 92 then false else true
is_line (c ∷ d ∷ text) = if c == 10 then false else is_line (d ∷ text)

-- A newline ends a line.
abbrev pub EndsLines : Type 0
EndsLines = (line rest : List ℕ) → is_line line ≡ true → lines_of (line ++ 10 ∷ rest) ≡ line ++ 10 ∷ lines_of rest

-- A carriage return and a newline end a line as a newline does.
abbrev pub EndsWindowsLines : Type 0
EndsWindowsLines = (line rest : List ℕ) → is_line line ≡ true → lines_of (line ++ 13 ∷ 10 ∷ rest) ≡ line ++ 10 ∷ lines_of rest

-- A backslash at a line's end joins the next line to it. The lines behind keep their numbers.
abbrev pub JoinsLines : Type 0
JoinsLines = (line next rest : List ℕ) → lacks 10 line ≡ true → is_line next ≡ true → lines_of (line ++ 92 ∷ 10 ∷ (next ++ 10 ∷ rest)) ≡ line ++ (next ++ 10 ∷ 10 ∷ lines_of rest)

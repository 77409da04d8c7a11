-- Texts that are filled up to a width. A text that is longer isn't cut. This project's own, after printf(3).
use Rattle.std.specs.Prelude.{ℕ, ◌-◌, List, ◌++◌, length, replicate}
use Rattle.std.specs.Fmt.{decimal}

-- A text at the right of a width, with what it is filled with in front.
abbrev pub right_in : ℕ → ℕ → List ℕ → List ℕ
right_in fill width text = replicate (width - length text) fill ++ text

-- A text at the left of a width, with blanks behind.
abbrev pub left_in : ℕ → List ℕ → List ℕ
left_in width text = text ++ replicate (width - length text) 32

-- A number in decimal digits, with zeros in front up to a width.
abbrev pub digits_in : ℕ → ℕ → List ℕ
digits_in width number = right_in 48 width (decimal number)

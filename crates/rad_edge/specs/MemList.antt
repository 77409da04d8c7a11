-- A list of numbers that is gone through once, and whose last one is then repeated. This project's own.
use Rattle.std.specs.Prelude.{ℕ, ◌-◌, ◌^◌, min, List, length, map, slice_index, nat_lt, if◌then◌else◌, Option, Some, None}
use Rattle.std.specs.List.{range_with_len}

-- The numbers, and how often one was asked for, up to the end of 64 bits.
pub record ListState : Type 0 where
  pub numbers : List ℕ
  pub asked : ℕ

-- The number that is given after so many, or 0 where there is none.
abbrev pub number_at : List ℕ → ℕ → ℕ
number_at numbers asked = slice_index numbers (min asked (length numbers - 1))

-- The first so many of the numbers that are given.
abbrev pub given : List ℕ → ℕ → List ℕ
given numbers count = map (number_at numbers) (range_with_len 0 count)

-- What was given is told until the count stands at its end.
abbrev pub told_by : ListState → Option (List ℕ)
told_by state = if nat_lt state.asked (2 ^ 64 - 1) then Some (given state.numbers state.asked) else None

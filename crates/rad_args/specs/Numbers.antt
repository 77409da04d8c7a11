-- Numbers among the words of a command line: 1 to 10 decimal digits. This project's own.
use Rattle.std.specs.Prelude.{ℕ, ◌&&◌, List, length, nat_lt, nat_le, Option, Some, None, if◌then◌else◌}
use Rattle.rad_text.specs.Find.{◌>>=◌}
use Rattle.rad_text.specs.Numerals.{number_of}

-- The number, where it is one from the least to the most.
abbrev pub within : ℕ → ℕ → ℕ → Option ℕ
within least most number = if nat_le least number && nat_le number most then Some number else None

-- The number of a word that has 10 digits at most, where it is one of these.
unfoldable pub number_in : ℕ → ℕ → List ℕ → Option ℕ
number_in least most word = if nat_lt 10 (length word) then None else number_of 10 word >>= within least most

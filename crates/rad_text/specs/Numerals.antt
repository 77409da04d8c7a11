-- Numbers as digits: decimal, or hexadecimal behind `0x`, of 32 bits at most (RFC 2865 section 5). Leading zeros
-- count for nothing, and there are no signs. This project's own.
use Rattle.std.specs.Prelude.{ℕ, ◌+◌, ◌*◌, Bool, false, ◌&&◌, ◌==◌, List, [], ◌∷◌, drop, slice_index, Option, Some, None, nat_lt, if◌then◌else◌}
use Rattle.std.specs.Char.{digit_value, is_digit}
use Rattle.rad_text.specs.Find.{◌>>=◌}

-- The number that the digits at the front write behind those of n, and what follows them.
unfoldable pub digits_at : ℕ → ℕ → List ℕ → ℕ × List ℕ
digits_at radix n [] = (n, [])
digits_at radix n (c ∷ rest) = if is_digit c radix then digits_at radix (n * radix + digit_value c) rest else (n, c ∷ rest)

-- A digit stands at the front.
abbrev pub begins_with_digit : ℕ → List ℕ → Bool
begins_with_digit radix [] = false
begins_with_digit radix (c ∷ rest) = is_digit c radix

-- The number, where it is below the limit.
abbrev pub below : ℕ → ℕ → Option ℕ
below limit number = if nat_lt number limit then Some number else None

-- The number and what follows it, where the number is below 2 ^ 32.
abbrev pub fitting : ℕ × List ℕ → Option (ℕ × List ℕ)
fitting number = if nat_lt number.0 4294967296 then Some number else None

-- The number at the front, of one digit or more, and what follows it.
unfoldable pub number_at : ℕ → List ℕ → Option (ℕ × List ℕ)
number_at radix text = if begins_with_digit radix text then fitting (digits_at radix 0 text) else None

-- A number behind which nothing stands.
abbrev pub whole : ℕ × List ℕ → Option ℕ
whole number = elim number.1 [ [] ↦ Some number.0 | c ∷ rest ↦ None ]

-- The number that a whole text writes.
unfoldable pub number_of : ℕ → List ℕ → Option ℕ
number_of radix text = number_at radix text >>= whole

-- `0x` stands at the front.
abbrev pub is_hexadecimal : List ℕ → Bool
is_hexadecimal text = slice_index text 0 == 48 && slice_index text 1 == 120

-- The number that a whole text writes, in decimal or behind `0x` in hexadecimal.
unfoldable pub numeral_of : List ℕ → Option ℕ
numeral_of text = if is_hexadecimal text then number_of 16 (drop 2 text) else number_of 10 text

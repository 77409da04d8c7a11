-- Spots in a text: line and column, both counted from 1, a column in octets. This project's own.
use Rattle.std.specs.Prelude.{ℕ, ◌+◌, ◌-◌, ◌==◌, min, List, [], ◌∷◌, length, take, if◌then◌else◌}
use Rattle.rad_text.specs.declared.spots.Spot.{Spot}

-- How many newlines stand in a text, and how many octets behind the last of them; both on top of these numbers.
unfoldable pub counted : ℕ × ℕ → List ℕ → ℕ × ℕ
counted counts [] = counts
counted counts (c ∷ rest) = if c == 10 then counted (counts.0 + 1, 0) rest else counted (counts.0, counts.1 + 1) rest

-- The number, or the greatest of 32 bits where it is above that.
abbrev pub capped : ℕ → ℕ
capped n = min n 4294967295

-- The spot behind these newlines and octets.
abbrev pub spot : ℕ × ℕ → Spot
spot counts = record { line = capped (counts.0 + 1); column = capped (counts.1 + 1) }

-- The spot from which on so many octets of a text are left.
unfoldable pub spot_of : List ℕ → ℕ → Spot
spot_of text left = spot (counted (0, 0) (take (length text - left) text))

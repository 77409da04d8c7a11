-- The places at which two texts differ. This project's own.
use Rattle.std.specs.Prelude.{ℕ, Bool, not, ◌==◌, List, length, filter, zip}

-- Two octets differ.
abbrev pub is_difference : ℕ × ℕ → Bool
is_difference octets = not (octets.0 == octets.1)

-- At how many places two texts differ, up to the shorter one's end.
abbrev pub differences : List ℕ → List ℕ → ℕ
differences one other = length (filter is_difference (zip one other))

-- Addresses of IPv4 as texts: four decimal parts joined by dots (RFC 1123 section 2.1).
use Rattle.std.specs.Prelude.{ℕ, ◌-◌, ◌/◌, ◌%◌, ◌&&◌, ◌==◌, List, [], ◌∷◌, ◌++◌, length, Option, Some, None, nat_lt, nat_le, if◌then◌else◌}
use Rattle.std.specs.Int.{w32, from_be_bytes}
use Rattle.std.specs.Fmt.{decimal}
use Rattle.rad_text.specs.Find.{◌>>=◌}
use Rattle.rad_text.specs.Numerals.{number_at}

-- A part of an address: one to three digits that write 255 at most, and what follows them. Leading zeros are read as
-- decimal, too.
unfoldable pub part_at : List ℕ → Option (ℕ × List ℕ)
part_at text = do
  part ← number_at 10 text
  if nat_le (length text - length part.1) 3 && nat_lt part.0 256 then Some part else None

-- The same behind a dot.
abbrev pub next_part_at : List ℕ → Option (ℕ × List ℕ)
next_part_at [] = None
next_part_at (c ∷ rest) = if c == 46 then part_at rest else None

-- An address of four parts, in network order as a number.
unfoldable pub address_of : List ℕ → Option ℕ
address_of text = do
  a ← part_at text
  b ← next_part_at a.1
  c ← next_part_at b.1
  d ← next_part_at c.1
  elim d.1 [ [] ↦ Some (from_be_bytes w32 (a.0 ∷ b.0 ∷ c.0 ∷ d.0 ∷ [])) | e ∷ rest ↦ None ]

-- An address in four decimal parts without leading zeros.
unfoldable pub dotted : ℕ → List ℕ
dotted address = decimal (address / 16777216) ++ 46 ∷ (decimal (address / 65536 % 256) ++ 46 ∷ (decimal (address / 256 % 256) ++ 46 ∷ decimal (address % 256)))

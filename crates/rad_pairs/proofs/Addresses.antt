-- Addresses that are printed are names.
use Rattle.std.proofs.Common.{ℕ, ◌/◌, ◌%◌, ◌^◌, ◌<◌, ◌∷◌, ◌++◌, arith}
use Rattle.std.specs.Fmt.{decimal}
use Rattle.std.proofs.lemmas.List.{length-append}
use Rattle.rad_text.specs.Addresses.{dotted}
use Rattle.rad_pairs.proofs.Names.{IsName, decimal_octets, joined}

pub address_name : (a : ℕ) → a < 2 ^ 32 → IsName (dotted a)
unfolding dotted
address_name a lt = (
  omega (arith, length-append (decimal (a / 16777216)) (46 ∷ (decimal (a / 65536 % 256) ++ 46 ∷ (decimal (a / 256 % 256) ++ 46 ∷ decimal (a % 256))))),
  joined (decimal (a / 16777216)) (46 ∷ (decimal (a / 65536 % 256) ++ 46 ∷ (decimal (a / 256 % 256) ++ 46 ∷ decimal (a % 256)))) (decimal_octets (a / 16777216) (omega arith))
      (joined (decimal (a / 65536 % 256)) (46 ∷ (decimal (a / 256 % 256) ++ 46 ∷ decimal (a % 256))) (decimal_octets (a / 65536 % 256) (omega arith))
      (joined (decimal (a / 256 % 256)) (46 ∷ decimal (a % 256)) (decimal_octets (a / 256 % 256) (omega arith)) (decimal_octets (a % 256) (omega arith)))),
)

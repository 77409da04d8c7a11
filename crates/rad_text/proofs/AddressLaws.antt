-- Addresses that are printed and read again.
use Rattle.std.proofs.Common.{◌≡◌, ℕ, ◌-◌, ◌/◌, ◌%◌, ◌^◌, ◌<◌, ◌≤◌, false, List, [], ◌∷◌, ◌++◌, length, Some, refl, sym, ap, ◌∙◌, arith}
use Rattle.std.specs.Int.{w32, from_be_bytes}
use Rattle.std.specs.Fmt.{decimal}
use Rattle.std.proofs.lemmas.Bool.{cond-true, lt-ltb, le-leb, and_from}
use Rattle.std.proofs.lemmas.Fmt.{length-decimal-le}
use Rattle.std.proofs.lemmas.List.{append-nil, length-append}
use Rattle.rad_text.specs.Numerals.{begins_with_digit}
use Rattle.rad_text.specs.Addresses.{part_at, address_of, dotted}
use Rattle.rad_text.proofs.Decimals.{number_read}

part_again : (n : ℕ) (rest : List ℕ) → n < 256 → begins_with_digit 10 rest ≡ false → part_at (decimal n ++ rest) ≡ Some (n, rest)
unfolding part_at
part_again n rest lt e =
    let short : length (decimal n ++ rest) - length rest ≤ 3 = omega (arith, length-append (decimal n) rest, length-decimal-le 3 n (omega arith) (omega arith) (omega arith)) in
    rw (number_read n rest (omega arith) e) (cond-true _ _ _ (and_from _ _ (le-leb _ 3 short) (lt-ltb n 256 lt)))

last_again : (n : ℕ) → n < 256 → part_at (decimal n) ≡ Some (n, [])
last_again n lt = ap part_at (sym (append-nil (decimal n))) ∙ part_again n [] lt refl

pub address_again : (a : ℕ) → a < 2 ^ 32 → address_of (dotted a) ≡ Some a
unfolding dotted address_of
address_again a lt =
    let p = a / 16777216 in
    let q = a / 65536 % 256 in
    let r = a / 256 % 256 in
    let s = a % 256 in
    let last = decimal s in
    let third = decimal r ++ 46 ∷ last in
    let second = decimal q ++ 46 ∷ third in
    let value : from_be_bytes w32 (p ∷ q ∷ r ∷ s ∷ []) ≡ a = omega arith in
    rw (part_again p (46 ∷ second) (omega arith) refl, part_again q (46 ∷ third) (omega arith) refl, part_again r (46 ∷ last) (omega arith) refl, last_again s (omega arith)) (ap Some value)

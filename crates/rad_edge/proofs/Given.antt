-- What a list of numbers has given grows by the number that is given next.
use Rattle.std.proofs.Common.{◌≡◌, ℕ, ◌+◌, ◌-◌, ◌^◌, ◌++◌, Bool, true, false, List, [], ◌∷◌, Some, None, if◌then◌else◌, nat_lt, refl, arith}
use Rattle.std.proofs.lemmas.List.FromFn.{map-range_with_len_more}
use Rattle.std.proofs.lemmas.Bool.Decides.{nat_tests}
use Rattle.rad_outside.specs.Telling.{Tells}
use Rattle.rad_edge.specs.Memory.{risen}
use Rattle.rad_edge.specs.MemList.{number_at, given, told_by}

pub given-more : (numbers : List ℕ) (count : ℕ) → given numbers (count + 1) ≡ given numbers count ++ number_at numbers count ∷ []
given-more numbers count = map-range_with_len_more (number_at numbers) 0 count count (omega arith)

-- The two tests of whether the count stands below its end, before and after.
told_by-cases : (numbers : List ℕ) (asked after : ℕ) (before now : Bool) → (now ≡ true → before ≡ true) → (now ≡ true → after ≡ asked + 1) → Tells (if before then Some (given numbers asked) else None) (if now then Some (given numbers after) else None) (λ old new. new ≡ old ++ number_at numbers asked ∷ [])
told_by-cases numbers asked after before false below next = tt
told_by-cases numbers asked after true true below next = rw (next refl) (given-more numbers asked)
told_by-cases numbers asked after false true below next = let e = below refl in cc

pub told_by-risen : (numbers : List ℕ) (asked : ℕ) → Tells (told_by (record { numbers = numbers; asked = asked })) (told_by (record { numbers = numbers; asked = risen asked })) (λ before now. now ≡ before ++ number_at numbers asked ∷ [])
told_by-risen numbers asked =
    told_by-cases numbers asked (risen asked) (nat_lt asked (2 ^ 64 - 1)) (nat_lt (risen asked) (2 ^ 64 - 1)) (λ h. grind (arith, nat_tests)) (λ h. grind (arith, nat_tests))

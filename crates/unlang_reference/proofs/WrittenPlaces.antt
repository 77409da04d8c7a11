-- Places of references that are written and read again.
use Rattle.std.proofs.Common.{◌≡◌, ℕ, ◌+◌, ◌*◌, ◌^◌, ◌<◌, ◌≤◌, true, false, eqb, List, [], ◌∷◌, ◌++◌, length, Some, refl, ap, ◌∙◌, arith}
use Rattle.std.proofs.lemmas.Bool.{cond-true, lt-ltb, ne_eqb}
use Rattle.std.proofs.lemmas.Bool.Decides.{nat_tests}
use Rattle.std.specs.Str.Parse.{AllDigits, digits_value_after}
use Rattle.std.specs.Char.{digit_value}
use Rattle.rad_text.specs.Numerals.{digits_at, fitting, number_at}
use Rattle.unlang_reference.specs.declared.reference.Which.{Which}
use Rattle.unlang_reference.specs.declared.reference.Which.TheVariants.{Nth}
use Rattle.unlang_reference.specs.Reading.{place_of, which_of}
use Rattle.unlang_reference.specs.Written.{lacks, IsPlace, nowhere, nth, all, number}

bracket_ends : (n : ℕ) → digits_at 10 n (93 ∷ []) ≡ (n, 93 ∷ [])
unfolding digits_at
bracket_ends n = refl

digits_read : (n : ℕ) (digits : List ℕ) → AllDigits 10 digits → digits_at 10 n (digits ++ 93 ∷ []) ≡ (digits_value_after 10 n digits, 93 ∷ [])
unfolding digits_at
digits_read n [] are = bracket_ends n
digits_read n (c ∷ digits) are = cond-true _ _ _ (lt-ltb (digit_value c) 10 are.0) ∙ digits_read (n * 10 + digit_value c) digits are.1

number_read : (digits : List ℕ) → 0 < length digits → AllDigits 10 digits → digits_value_after 10 0 digits < 2 ^ 32 → number_at 10 (digits ++ 93 ∷ []) ≡ Some (digits_value_after 10 0 digits, 93 ∷ [])
unfolding number_at
number_read [] long are small = absurd (omega arith)
number_read (c ∷ digits) long are small =
    cond-true _ _ _ (lt-ltb (digit_value c) 10 are.0) ∙ ap fitting (digits_read 0 (c ∷ digits) are) ∙ cond-true _ _ _ (lt-ltb (digits_value_after 10 0 (c ∷ digits)) 4294967296 (omega (arith, small)))

digit_range : (c : ℕ) → digit_value c < 10 → (48 ≤ c) × (c < 58)
digit_range c lt = grind (arith, nat_tests)

nth_read : (digits : List ℕ) → 0 < length digits → AllDigits 10 digits → digits_value_after 10 0 digits < 2 ^ 32 → place_of (digits ++ 93 ∷ []) ≡ Some (Nth (digits_value_after 10 0 digits))
nth_read [] long are small = absurd (omega arith)
nth_read (c ∷ digits) long are small =
    let range = digit_range c are.0 in
    let star : eqb c 42 ≡ false = ne_eqb c 42 (λ e. omega (arith, range.0, e)) in
    let hash : eqb c 35 ≡ false = ne_eqb c 35 (λ e. omega (arith, range.0, e)) in
    rw (star, hash, number_read (c ∷ digits) long are small) refl

pub place_read : {which : Which} {place : List ℕ} → IsPlace which place → which_of place ≡ Some which
place_read nowhere = refl
place_read (nth digits long are small) = nth_read digits long are small
place_read all = refl
place_read number = refl

-- A place begins with a bracket, and has no colon.
pub data Bracketed : List ℕ → Type 0 where
  no_place : Bracketed []
  bracket : (rest : List ℕ) → Bracketed (91 ∷ rest)

pub place_bracketed : {which : Which} {place : List ℕ} → IsPlace which place → Bracketed place
place_bracketed nowhere = no_place
place_bracketed (nth digits long are small) = bracket (digits ++ 93 ∷ [])
place_bracketed all = bracket (42 ∷ 93 ∷ [])
place_bracketed number = bracket (35 ∷ 93 ∷ [])

digits_lack : (digits : List ℕ) → AllDigits 10 digits → lacks 58 (digits ++ 93 ∷ []) ≡ true
digits_lack [] are = refl
digits_lack (c ∷ digits) are =
    let colon : eqb c 58 ≡ false = ne_eqb c 58 (λ e. omega (arith, (digit_range c are.0).1, e)) in
    rw colon (digits_lack digits are.1)

pub place_lacks : {which : Which} {place : List ℕ} → IsPlace which place → lacks 58 place ≡ true
place_lacks nowhere = refl
place_lacks (nth digits long are small) = digits_lack digits are
place_lacks all = refl
place_lacks number = refl

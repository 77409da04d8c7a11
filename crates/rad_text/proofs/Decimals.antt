-- Numbers that are printed in decimal and read again.
use Rattle.std.proofs.Common.{◌≡◌, ℕ, ◌+◌, ◌*◌, ◌^◌, ◌<◌, true, false, List, [], ◌∷◌, ◌++◌, length, Some, refl, sym, ap, ◌∙◌, arith}
use Rattle.std.specs.Fmt.{decimal}
use Rattle.std.specs.Str.Parse.{AllDigits, digits_value_after}
use Rattle.std.specs.Char.{digit_value}
use Rattle.std.proofs.lemmas.Bool.{cond-true, cond-false, lt-ltb}
use Rattle.std.proofs.lemmas.Fmt.{decimal_is_IsNumeral}
use Rattle.std.proofs.lemmas.List.{append-nil}
use Rattle.rad_text.specs.Numerals.{digits_at, begins_with_digit, fitting, number_at, number_of}

digits_end : (radix k : ℕ) (rest : List ℕ) → begins_with_digit radix rest ≡ false → digits_at radix k rest ≡ (k, rest)
unfolding digits_at
digits_end radix k [] e = refl
digits_end radix k (c ∷ rest) e = cond-false _ _ _ e

pub digits_read : (radix k : ℕ) (digits rest : List ℕ) → AllDigits radix digits → begins_with_digit radix rest ≡ false → digits_at radix k (digits ++ rest) ≡ (digits_value_after radix k digits, rest)
unfolding digits_at
digits_read radix k [] rest all e = digits_end radix k rest e
digits_read radix k (c ∷ digits) rest all e = cond-true _ _ _ (lt-ltb (digit_value c) radix all.0) ∙ digits_read radix (k * radix + digit_value c) digits rest all.1 e

begins : (digits rest : List ℕ) → 0 < length digits → AllDigits 10 digits → begins_with_digit 10 (digits ++ rest) ≡ true
begins [] rest long all = absurd (omega arith)
begins (c ∷ digits) rest long all = lt-ltb (digit_value c) 10 all.0

-- A number in front of what is no digit.
pub number_read : (n : ℕ) (rest : List ℕ) → n < 2 ^ 32 → begins_with_digit 10 rest ≡ false → number_at 10 (decimal n ++ rest) ≡ Some (n, rest)
unfolding number_at
number_read n rest lt e =
    let numeral = decimal_is_IsNumeral n (omega arith) in
    let digits : digits_at 10 0 (decimal n ++ rest) ≡ (n, rest) = digits_read 10 0 (decimal n) rest numeral.0.1 e ∙ ap (λ (k : ℕ). (k, rest)) numeral.1 in
    cond-true _ _ _ (begins (decimal n) rest numeral.0.0 numeral.0.1) ∙ ap fitting digits ∙ cond-true _ _ _ (lt-ltb n 4294967296 (omega arith))

-- A number alone.
pub number_again : (n : ℕ) → n < 2 ^ 32 → number_of 10 (decimal n) ≡ Some n
unfolding number_of
number_again n lt =
    let read : number_at 10 (decimal n) ≡ Some (n, []) = ap (number_at 10) (sym (append-nil (decimal n))) ∙ number_read n [] lt refl in
    rw read refl

pub number_alone : (n : ℕ) → n < 2 ^ 32 → number_at 10 (decimal n) ≡ Some (n, [])
number_alone n lt = ap (number_at 10) (sym (append-nil (decimal n))) ∙ number_read n [] lt refl

-- Numbers that are read one digit at a time.
use Rattle.std.proofs.Common.{◌≡◌, ℕ, ◌+◌, ◌*◌, ◌<◌, ◌≤◌, true, false, List, [], ◌∷◌, Some, None, refl, sym, ap, ◌∙◌, arith}
use Rattle.std.proofs.Math.Nat.{mul-le-mul_left}
use Rattle.std.proofs.lemmas.Bool.{cond_both, cond-true, cond-false, ltb-true, lt-ltb, le-ltb}
use Rattle.std.specs.Char.{digit_value, is_digit}
use Rattle.rad_text.specs.Numerals.{digits_at, fitting}

-- More digits make no smaller number.
pub digits_at-le : (radix n : ℕ) (text : List ℕ) → n ≤ (digits_at radix n text).0
unfolding digits_at
digits_at-le radix n [] = omega arith
digits_at-le radix n (c ∷ rest) =
    cond_both (is_digit c radix) (digits_at radix (n * radix + digit_value c) rest) (n, c ∷ rest) (λ (x : ℕ × List ℕ). n ≤ x.0)
    (λ e. omega (arith, digits_at-le radix (n * radix + digit_value c) rest, longer (ltb-true (digit_value c) radix e)))
    (λ e. omega arith)
  where
    longer : digit_value c < radix → n ≤ n * radix + digit_value c
    longer lt = let one : 1 ≤ radix = omega arith in omega (arith, mul-le-mul_left n one)

-- A digit that makes the number too large leaves none.
pub too_large : (radix n : ℕ) (c : ℕ) (rest : List ℕ) (text : List ℕ) (total : ℕ × List ℕ) → text ≡ c ∷ rest → is_digit c radix ≡ true → 4294967296 ≤ n * radix + digit_value c
    → digits_at radix n text ≡ total → None ≡ fitting total
unfolding digits_at
too_large radix n c rest text total is digit large so_far =
    let one : digits_at radix n (c ∷ rest) ≡ digits_at radix (n * radix + digit_value c) rest = cond-true _ _ _ digit in
    let all : total ≡ digits_at radix (n * radix + digit_value c) rest = sym so_far ∙ ap (digits_at radix n) is ∙ one in
    let big : 4294967296 ≤ total.0 = rw all (omega (arith, digits_at-le radix (n * radix + digit_value c) rest)) in
    sym (cond-false _ (Some total) None (le-ltb total.0 4294967296 big))

-- The digits have ended.
pub ended : (radix n : ℕ) (text : List ℕ) (total : ℕ × List ℕ) → n < 4294967296 → digits_at radix n text ≡ (n, text) → digits_at radix n text ≡ total → Some (n, text) ≡ fitting total
ended radix n text total fits stands so_far = rw (sym so_far ∙ stands) (sym (cond-true _ (Some (n, text)) None (lt-ltb n 4294967296 fits)))

pub no_digit : (radix n : ℕ) (c : ℕ) (rest : List ℕ) → is_digit c radix ≡ false → digits_at radix n (c ∷ rest) ≡ (n, c ∷ rest)
unfolding digits_at
no_digit radix n c rest e = cond-false _ _ _ e

pub no_text : (radix n : ℕ) (text : List ℕ) → text ≡ [] → digits_at radix n text ≡ (n, text)
unfolding digits_at
no_text radix n text e = rw e refl

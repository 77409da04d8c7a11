-- Decimal numbers of at most 38 digits fit 128 bits.
use Rattle.std.proofs.Common.{◌≡◌, ℕ, suc, ◌+◌, ◌-◌, ◌*◌, ◌^◌, ◌<◌, ◌≤◌, Bool, true, false, cond, List, [], ◌∷◌, length, Option, Some, None, refl, sym, ap, ◌∙◌, arith}
use Rattle.std.specs.Prelude.{nat_le, ◌&&◌}
use Rattle.std.specs.Char.{digit_value, is_digit}
use Rattle.std.proofs.Math.Nat.{pow-suc, pow-le-pow_right}
use Rattle.std.proofs.lemmas.Bool.{le-leb, cond-true}
use Rattle.rad_text.specs.Numerals.{digits_at, whole}
use Rattle.rad_text.proofs.DigitLemmas.{no_digit, no_text}
use Rattle.unlang_cond.specs.Texts.{number_in}

by_none : (b : Bool) (o : Option ℕ) → o ≡ None → None ≡ cond b o None
by_none true o e = sym e
by_none false o e = refl

-- An octet that is no digit leaves no number.
pub no_number : (text rest after : List ℕ) (n c : ℕ) → rest ≡ c ∷ after → is_digit c 10 ≡ false → digits_at 10 n rest ≡ digits_at 10 0 text → None ≡ number_in text
no_number text rest after n c e stops so_far =
    let ends : digits_at 10 0 text ≡ (n, c ∷ after) = sym so_far ∙ ap (digits_at 10 n) e ∙ no_digit 10 n c after stops in
    by_none (nat_le 1 (length text) && nat_le (length text) 38) (whole (digits_at 10 0 text)) (ap whole ends)

-- The digits have ended.
pub a_number : (text rest : List ℕ) (n : ℕ) → rest ≡ [] → 1 ≤ length text → length text ≤ 38 → digits_at 10 n rest ≡ digits_at 10 0 text → Some n ≡ number_in text
a_number text rest n e some short so_far =
    let ends : digits_at 10 0 text ≡ (n, []) = sym so_far ∙ no_text 10 n rest e ∙ ap (λ (r : List ℕ). (n, r)) e in
    rw (le-leb 1 (length text) some, le-leb (length text) 38 short) (sym (ap whole ends))

-- One more digit.
pub one_more_digit : (all left after number d : ℕ) → all ≤ 38 → left ≤ all → left ≡ suc after → number < 10 ^ (all - left) → d < 10
    → (number * 10 + d < 10 ^ (all - after)) × (number * 10 + d < 340282366920938463463374607431768211456)
one_more_digit all left after number d short within one small digit =
    let k = all - left in
    let e : all - after ≡ suc k = omega arith in
    let grown : 10 ^ suc k ≡ 10 ^ k * 10 = pow-suc 10 k in
    let bound : 10 ^ suc k ≤ 10 ^ 38 = pow-le-pow_right {n = 10} (omega arith) {i = suc k} {j = 38} (omega arith) in
    let less : number * 10 + d < 10 ^ suc k = rw grown (omega arith) in
    (rw e less, omega (arith, bound, less))

pub goes_on : (text rest after : List ℕ) (n c d : ℕ) → rest ≡ c ∷ after → is_digit c 10 ≡ true → d ≡ digit_value c → digits_at 10 n rest ≡ digits_at 10 0 text → digits_at 10 (n * 10 + d) after ≡ digits_at 10 0 text
unfolding digits_at
goes_on text rest after n c d e digit value so_far =
    let one : digits_at 10 n (c ∷ after) ≡ digits_at 10 (n * 10 + digit_value c) after = cond-true _ _ _ digit in
    ap (λ k. digits_at 10 (n * 10 + k) after) value ∙ sym one ∙ ap (digits_at 10 n) (sym e) ∙ so_far

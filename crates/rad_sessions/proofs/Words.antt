-- Words that are written, and found again before the blank behind them.
use Rattle.std.proofs.Common.{◌≡◌, ℕ, suc, ◌+◌, ◌*◌, ◌/◌, ◌%◌, ◌^◌, ◌<◌, ◌≤◌, true, false, eqb, ltb, List, [], ◌∷◌, ◌++◌, length, drop, Some, refl, ap, ◌∙◌, arith}
use Rattle.std.specs.List.{AllByRecursion}
use Rattle.std.specs.Char.{digit_value, digit_char}
use Rattle.std.specs.Fmt.{decimal}
use Rattle.std.specs.Str.Parse.{AllDigits, digits_value_after}
use Rattle.std.proofs.lemmas.Bool.{cond-true, cond-false, cond_both, lt-ltb, ltb-false, eqb-true}
use Rattle.std.proofs.lemmas.Fmt.{decimal_is_IsNumeral}
use Rattle.std.proofs.lemmas.List.{length-append}
use Rattle.std.proofs.lemmas.Str.{digit_value-digit_char}
use Rattle.std.proofs.Math.Seq.{take-append_seam, drop-append-add}
use Rattle.rad_text.specs.Addresses.{dotted}
use Rattle.rad_sessions.specs.Log.{hex_of, hex_word, octets_of, mark_at, cut_at, seconds_after}
use Rattle.rad_sessions.specs.Laws.{AreOctets}

-- Each octet of a word is above the marks.
abbrev pub IsWord : List ℕ → Type 0
IsWord word = AllByRecursion (λ c. 45 ≤ c) word

pub both_words : (one two : List ℕ) → IsWord one → IsWord two → IsWord (one ++ two)
both_words [] two first second = second
both_words (c ∷ one) two first second = (first.0, both_words one two first.1 second)

other_octet : (mark c : ℕ) → mark < 45 → 45 ≤ c → eqb c mark ≡ false
other_octet mark c low high = (elim (eqb c mark) as (λ b. eqb c mark ≡ b → eqb c mark ≡ false) [
  | true ↦ λ e. absurd (let same : c ≡ mark = eqb-true c mark e in omega arith)
  | false ↦ λ e. e
]) refl

same_octet : (mark : ℕ) → eqb mark mark ≡ true
same_octet mark = grind arith

mark_behind : (mark : ℕ) (word rest : List ℕ) → mark < 45 → IsWord word → mark_at mark (word ++ mark ∷ rest) ≡ length word
unfolding mark_at
mark_behind mark [] rest low all = cond-true _ _ _ (same_octet mark)
mark_behind mark (c ∷ word) rest low all = cond-false _ _ _ (other_octet mark c low all.0) ∙ ap suc (mark_behind mark word rest low all.1)

pub cut_behind : (mark : ℕ) (word rest : List ℕ) → mark < 45 → IsWord word → cut_at mark (word ++ mark ∷ rest) ≡ Some (word, rest)
unfolding cut_at
cut_behind mark word rest low all =
    let within : length word < length (word ++ mark ∷ rest) = omega (arith, length-append word (mark ∷ rest)) in
    rw (mark_behind mark word rest low all)
    (cond-true _ _ _ (lt-ltb (length word) (length (word ++ mark ∷ rest)) within)
    ∙ ap (λ (w : List ℕ). Some (w, drop (length word + 1) (word ++ mark ∷ rest))) (take-append_seam word (mark ∷ rest))
    ∙ ap (λ (r : List ℕ). Some (word, r)) (drop-append-add word (mark ∷ rest) 1))

high_digit : (c : ℕ) → digit_value c < 10 → 45 ≤ c
high_digit c lt = (elim (ltb c 48) as (λ b. ltb c 48 ≡ b → 45 ≤ c) [
  | true ↦ λ e. absurd (let none : digit_value c ≡ 36 = cond-true _ _ _ e in omega arith)
  | false ↦ λ e. let high : 48 ≤ c = ltb-false c 48 e in omega arith
]) refl

digits_word : (digits : List ℕ) → AllDigits 10 digits → IsWord digits
digits_word [] all = tt
digits_word (c ∷ digits) all = (high_digit c all.0, digits_word digits all.1)

pub decimal_word : (n : ℕ) → n < 2 ^ 64 → IsWord (decimal n)
decimal_word n lt = digits_word (decimal n) (decimal_is_IsNumeral n (omega arith)).0.1

pub dotted_word : (address : ℕ) → address < 2 ^ 32 → IsWord (dotted address)
unfolding dotted
dotted_word a lt =
    let p = decimal_word (a / 16777216) (omega arith) in
    let q = decimal_word (a / 65536 % 256) (omega arith) in
    let r = decimal_word (a / 256 % 256) (omega arith) in
    let s = decimal_word (a % 256) (omega arith) in
    both_words (decimal (a / 16777216)) _ p (omega arith, both_words (decimal (a / 65536 % 256)) _ q (omega arith, both_words (decimal (a / 256 % 256)) _ r (omega arith, s)))

hex_digit_high : (d : ℕ) → 45 ≤ digit_char d
hex_digit_high d = cond_both (ltb d 10) (48 + d) (87 + d) (λ (n : ℕ). 45 ≤ n) (λ e. omega arith) (λ e. omega arith)

hex_high : (octets : List ℕ) → IsWord (hex_of octets)
hex_high [] = tt
hex_high (b ∷ octets) = (hex_digit_high (b / 16), (hex_digit_high (b % 16), hex_high octets))

pub hex_is_word : (octets : List ℕ) → IsWord (hex_word octets)
hex_is_word [] = (omega arith, tt)
hex_is_word (b ∷ octets) = hex_high (b ∷ octets)

octet_again : (b : ℕ) → b < 256 → (digit_value (digit_char (b / 16)) * 16 + digit_value (digit_char (b % 16))) % 256 ≡ b
octet_again b lt = rw (digit_value-digit_char (b / 16) (omega arith), digit_value-digit_char (b % 16) (omega arith)) (omega arith)

hex_again : (octets : List ℕ) → AreOctets octets → octets_of (hex_of octets) ≡ octets
unfolding octets_of
hex_again [] all = refl
hex_again (b ∷ octets) all = ap (λ (c : ℕ). c ∷ octets_of (hex_of octets)) (octet_again b all.0) ∙ ap (λ (more : List ℕ). b ∷ more) (hex_again octets all.1)

nothing_again : octets_of (45 ∷ []) ≡ []
unfolding octets_of
nothing_again = refl

pub octets_again : (octets : List ℕ) → AreOctets octets → octets_of (hex_word octets) ≡ octets
octets_again [] all = nothing_again
octets_again (b ∷ octets) all = hex_again (b ∷ octets) all

seconds_by_value : (n m : ℕ) (digits : List ℕ) → n ≡ m % 18446744073709551616 → seconds_after n digits ≡ digits_value_after 10 m digits % 18446744073709551616
unfolding seconds_after
seconds_by_value n m [] same = same
seconds_by_value n m (c ∷ digits) same = seconds_by_value ((n * 10 + digit_value c) % 18446744073709551616) (m * 10 + digit_value c) digits (omega (arith, same))

pub seconds_again : (n : ℕ) → n < 2 ^ 64 → seconds_after 0 (decimal n) ≡ n
seconds_again n lt =
    let value : digits_value_after 10 0 (decimal n) ≡ n = (decimal_is_IsNumeral n (omega arith)).1 in
    seconds_by_value 0 0 (decimal n) refl ∙ ap (λ (k : ℕ). k % 18446744073709551616) value ∙ omega arith

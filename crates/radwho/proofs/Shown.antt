-- Octets as they are shown are printed, and none of them is a comma where commas part fields.
use Rattle.std.proofs.Common.{◌≡◌, ℕ, ◌+◌, ◌/◌, ◌%◌, ◌<◌, ◌≤◌, Bool, true, false, eqb, ltb, ◌&&◌, ◌||◌, List, [], ◌∷◌, ◌++◌, refl, ◌∙◌, arith}
use Rattle.std.specs.List.{AllByRecursion}
use Rattle.std.proofs.lemmas.Bool.{cond_both, or_parts, or_from, ne_eqb, ltb-false}
use Rattle.std.proofs.lemmas.List.Folds.{list_any-append}
use Rattle.rad_sessions.specs.Laws.{AreOctets}
use Rattle.rad_args.specs.Words.{is_in}
use Rattle.radwho.specs.Lines.{is_escaped, octal, shown, escaped}

abbrev IsPrinted : ℕ → Type 0
IsPrinted c = (32 ≤ c) × (c ≤ 126)

abbrev ArePrinted : List ℕ → Type 0
ArePrinted octets = AllByRecursion (λ c. (32 ≤ c) × (c ≤ 126)) octets

both_printed : (one two : List ℕ) → ArePrinted one → ArePrinted two → ArePrinted (one ++ two)
both_printed [] two first second = second
both_printed (c ∷ one) two first second = (first.0, both_printed one two first.1 second)

-- An octet that isn't escaped.
plain : (commas : Bool) (c : ℕ) → is_escaped commas c ≡ false → (32 ≤ c) × (c ≤ 126)
plain commas c none =
    let low = or_parts (ltb c 32) (ltb 126 c || (eqb c 92 || (commas && eqb c 44))) none in
    let high = or_parts (ltb 126 c) (eqb c 92 || (commas && eqb c 44)) low.1 in
    (ltb-false c 32 low.0, ltb-false 126 c high.0)

no_plain_comma : (c : ℕ) → is_escaped true c ≡ false → eqb c 44 ≡ false
no_plain_comma c none =
    let low = or_parts (ltb c 32) (ltb 126 c || (eqb c 92 || eqb c 44)) none in
    let high = or_parts (ltb 126 c) (eqb c 92 || eqb c 44) low.1 in
    (or_parts (eqb c 92) (eqb c 44) high.1).1

octal_printed : (c : ℕ) → c < 256 → ArePrinted (octal c)
octal_printed c lt = (omega arith, (omega arith, (omega arith, (omega arith, tt))))

octal_plain : (c : ℕ) → c < 256 → is_in 44 (octal c) ≡ false
octal_plain c lt =
    or_from (eqb 92 44) _ refl
    (or_from (eqb (48 + c / 64) 44) _ (ne_eqb (48 + c / 64) 44 (λ e. omega (arith, e)))
    (or_from (eqb (48 + c / 8 % 8) 44) _ (ne_eqb (48 + c / 8 % 8) 44 (λ e. omega (arith, e)))
    (or_from (eqb (48 + c % 8) 44) false (ne_eqb (48 + c % 8) 44 (λ e. omega (arith, e))) refl)))

shown_printed : (commas : Bool) (c : ℕ) → c < 256 → ArePrinted (shown commas c)
shown_printed commas c lt =
    cond_both (is_escaped commas c) (octal c) (c ∷ []) (λ (octets : List ℕ). ArePrinted octets) (λ e. octal_printed c lt) (λ e. (plain commas c e, tt))

shown_plain : (c : ℕ) → c < 256 → is_in 44 (shown true c) ≡ false
shown_plain c lt =
    cond_both (is_escaped true c) (octal c) (c ∷ []) (λ (octets : List ℕ). is_in 44 octets ≡ false) (λ e. octal_plain c lt) (λ e. or_from (eqb c 44) false (no_plain_comma c e) refl)

pub all_printed : (commas : Bool) (octets : List ℕ) → AreOctets octets → ArePrinted (escaped commas octets)
all_printed commas [] are = tt
all_printed commas (c ∷ octets) are = both_printed (shown commas c) (escaped commas octets) (shown_printed commas c are.0) (all_printed commas octets are.1)

pub no_comma : (octets : List ℕ) → AreOctets octets → is_in 44 (escaped true octets) ≡ false
no_comma [] are = refl
no_comma (c ∷ octets) are =
    list_any-append (λ (other : ℕ). eqb other 44) (shown true c) (escaped true octets) ∙ or_from (is_in 44 (shown true c)) (is_in 44 (escaped true octets)) (shown_plain c are.0) (no_comma octets are.1)

-- Octets that are printed in hexadecimal and read again.
use Rattle.std.proofs.Common.{◌≡◌, ℕ, ◌+◌, ◌*◌, ◌/◌, ◌%◌, ◌<◌, true, List, [], ◌∷◌, ◌++◌, Some, refl, ap, ◌∙◌, arith}
use Rattle.std.specs.Option.{option_map}
use Rattle.std.specs.List.{flat_map}
use Rattle.std.specs.Char.{digit_value, digit_char, is_digit}
use Rattle.std.proofs.lemmas.Bool.{cond-true, lt-ltb, and_from}
use Rattle.std.proofs.lemmas.Str.{digit_value-digit_char}
use Rattle.std.proofs.lemmas.List.Concat.{flat_map-cons}
use Rattle.rad_pairs.specs.ValueText.{two_digits, hexadecimal}
use Rattle.rad_pairs.specs.ValueReading.{digit_pairs, octets_of}
use Rattle.rad_pairs.specs.ReadingBack.{AreOctets}
use Rattle.rad_pairs.proofs.Names.{IsName, are_name_octets, hexadecimal_digit, joined}

digit_again : (d : ℕ) → d < 16 → is_digit (digit_char d) 16 ≡ true
digit_again d lt = rw (digit_value-digit_char d (omega arith)) (lt-ltb d 16 lt)

pair_again : (c : ℕ) (rest : List ℕ) → c < 256 → digit_pairs (two_digits c ++ rest) ≡ option_map (λ (octets : List ℕ). c ∷ octets) (digit_pairs rest)
unfolding digit_pairs
pair_again c rest lt =
    let high : c / 16 < 16 = omega arith in
    let low : c % 16 < 16 = omega arith in
    let value : digit_value (digit_char (c / 16)) * 16 + digit_value (digit_char (c % 16)) ≡ c = rw (digit_value-digit_char (c / 16) (omega arith), digit_value-digit_char (c % 16) (omega arith)) (omega arith) in
    cond-true _ _ _ (and_from _ _ (digit_again (c / 16) high) (digit_again (c % 16) low))
    ∙ ap (λ (k : ℕ). option_map (λ (octets : List ℕ). k ∷ octets) (digit_pairs rest)) value

pairs_again : (octets : List ℕ) → AreOctets octets → digit_pairs (flat_map two_digits octets) ≡ Some octets
unfolding digit_pairs
pairs_again [] all = refl
pairs_again (c ∷ octets) all =
    ap digit_pairs (flat_map-cons two_digits c octets) ∙ pair_again c (flat_map two_digits octets) all.0 ∙ ap (option_map (λ (octets : List ℕ). c ∷ octets)) (pairs_again octets all.1)

pub octets_again : (octets : List ℕ) → AreOctets octets → octets_of (hexadecimal octets) ≡ octets
unfolding hexadecimal octets_of
octets_again octets all = rw (pairs_again octets all, octets_of) refl

digits_named : (octets : List ℕ) → AreOctets octets → are_name_octets (flat_map two_digits octets) ≡ true
digits_named [] all = refl
digits_named (c ∷ octets) all =
    ap are_name_octets (flat_map-cons two_digits c octets)
    ∙ joined (two_digits c) (flat_map two_digits octets)
    (and_from _ _ (hexadecimal_digit (c / 16) (omega (arith, all.0))) (and_from _ _ (hexadecimal_digit (c % 16) (omega arith)) refl))
    (digits_named octets all.1)

pub hexadecimal_name : (octets : List ℕ) → AreOctets octets → IsName (hexadecimal octets)
unfolding hexadecimal
hexadecimal_name octets all = (omega arith, digits_named octets all)

-- Octets that are read two digits at a time.
use Rattle.std.proofs.Common.{◌≡◌, ℕ, ◌+◌, ◌*◌, true, ◌&&◌, List, [], ◌∷◌, ◌++◌, Option, Some, None, refl, sym, ap, ◌∙◌, append_assoc}
use Rattle.std.proofs.lemmas.Bool.{cond-true, and_from}
use Rattle.std.specs.Option.{option_map}
use Rattle.std.specs.Char.{digit_value, is_digit}
use Rattle.rad_pairs.specs.ValueReading.{digit_pairs}

abbrev pub in_front : List ℕ → Option (List ℕ) → Option (List ℕ)
in_front front read = option_map (λ (octets : List ℕ). front ++ octets) read

regroup : (front : List ℕ) (c : ℕ) (read : Option (List ℕ)) → in_front front (option_map (λ (octets : List ℕ). c ∷ octets) read) ≡ in_front (front ++ c ∷ []) read
regroup front c None = refl
regroup front c (Some octets) = ap Some (sym (append_assoc front (c ∷ []) octets))

pub goes_on : (front : List ℕ) (c d : ℕ) (rest : List ℕ) → is_digit c 16 ≡ true → is_digit d 16 ≡ true
    → in_front front (digit_pairs (c ∷ d ∷ rest)) ≡ in_front (front ++ (digit_value c * 16 + digit_value d) ∷ []) (digit_pairs rest)
unfolding digit_pairs
goes_on front c d rest first second =
    ap (in_front front) (cond-true (is_digit c 16 && is_digit d 16) _ _ (and_from (is_digit c 16) (is_digit d 16) first second))
    ∙ regroup front (digit_value c * 16 + digit_value d) (digit_pairs rest)

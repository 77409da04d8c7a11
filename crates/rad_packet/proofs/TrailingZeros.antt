-- Octets without the zero octets at their end.
use Rattle.std.proofs.Common.{◌≡◌, ◌≢◌, ℕ, zero, suc, ◌+◌, List, [], ◌∷◌, ◌++◌, length, take, get_or, refl, sym, ap, ◌∙◌, arith}
use Rattle.std.specs.Prelude.{reverse, replicate}
use Rattle.std.proofs.lemmas.List.{append-nil, append_assoc, reverse-append, reverse-reverse, take_more, take_all}
use Rattle.rad_packet.specs.Hiding.{without_leading_zeros, without_trailing_zeros, HasNoTrailingZero}

zero_at_end : (octets : List ℕ) → without_trailing_zeros (octets ++ 0 ∷ []) ≡ without_trailing_zeros octets
zero_at_end octets = ap (λ (turned : List ℕ). reverse (without_leading_zeros turned)) (reverse-append octets (0 ∷ []))

other_at_end : (octets : List ℕ) (octet : ℕ) → octet ≢ 0 → without_trailing_zeros (octets ++ octet ∷ []) ≡ octets ++ octet ∷ []
other_at_end octets zero other = absurd (other refl)
other_at_end octets (suc octet) other =
    let turned = reverse-append octets (suc octet ∷ []) in
    ap (λ (all : List ℕ). reverse (without_leading_zeros all)) turned
    ∙ sym (ap reverse turned)
    ∙ reverse-reverse (octets ++ suc octet ∷ [])

pub zeros_at_end : (octets : List ℕ) (count : ℕ) → without_trailing_zeros (octets ++ replicate count 0) ≡ without_trailing_zeros octets
zeros_at_end octets zero = ap without_trailing_zeros (append-nil octets)
zeros_at_end octets (suc count) =
    ap without_trailing_zeros (sym (append_assoc octets (0 ∷ []) (replicate count 0)))
    ∙ zeros_at_end (octets ++ 0 ∷ []) count ∙ zero_at_end octets

last_apart : (octets : List ℕ) (count : ℕ) → length octets ≡ suc count → octets ≡ take count octets ++ get_or octets count 0 ∷ []
last_apart octets count long =
    sym (take_all (count + 1) octets (omega (arith, long))) ∙ take_more octets count 0 (omega (arith, long))

no_zero_at_end-when : (octets : List ℕ) (count : ℕ) → length octets ≡ suc count → HasNoTrailingZero octets
    → without_trailing_zeros octets ≡ octets
no_zero_at_end-when octets count long none =
    let apart = last_apart octets count long in
    let other : get_or octets count 0 ≢ 0 =
    λ is. none (take count octets) (apart ∙ ap (λ (octet : ℕ). take count octets ++ octet ∷ []) is) in
    ap without_trailing_zeros apart ∙ other_at_end (take count octets) (get_or octets count 0) other ∙ sym apart

pub no_zero_at_end : (octets : List ℕ) → HasNoTrailingZero octets → without_trailing_zeros octets ≡ octets
no_zero_at_end [] none = refl
no_zero_at_end (octet ∷ octets) none = no_zero_at_end-when (octet ∷ octets) (length octets) refl none

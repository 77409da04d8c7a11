-- Blocks of 64 octets that are made from a key.
use Rattle.std.proofs.Common.{◌≡◌, ℕ, ◌-◌, ◌≤◌, ◌<◌, List, length, get_or, replicate, refl, sym, ◌∙◌, inl, inr, arith}
use Rattle.std.proofs.lemmas.Bool.{cases_lt}
use Rattle.std.proofs.lemmas.List.{ext_get_or, get_or_append_left, get_or-append_right, get_or-replicate, length-append, length-replicate}
use Rattle.rad_packet.specs.Hmac.{zero_filled}

zero_filled-length : (octets : List ℕ) → length octets ≤ 64 → length (zero_filled octets) ≡ 64
zero_filled-length octets short =
    omega (arith, short, length-append octets (replicate (64 - length octets) 0), length-replicate {A = ℕ} (64 - length octets) 0)

zero_filled-get : (octets : List ℕ) (i : ℕ) → i < 64 → length octets ≤ i → get_or (zero_filled octets) i 0 ≡ 0
zero_filled-get octets i within behind =
    get_or-append_right octets (replicate (64 - length octets) 0) (length octets) i 0 refl behind
    ∙ get_or-replicate (64 - length octets) (i - length octets) 0 0 (omega (arith, within, behind))

pub is_zero_filled : (octets block : List ℕ) → length octets ≤ 64 → length block ≡ 64
    → ((i : ℕ) → i < length octets → get_or block i 0 ≡ get_or octets i 0)
    → ((i : ℕ) → length octets ≤ i → i < 64 → get_or block i 0 ≡ 0) → block ≡ zero_filled octets
is_zero_filled octets block short long front back =
    ext_get_or 0 block (zero_filled octets) (long ∙ sym (zero_filled-length octets short)) (λ i h.
    elim (cases_lt i (length octets)) [
      | inl within ↦ front i within ∙ sym (get_or_append_left octets (replicate (64 - length octets) 0) 0 i within)
      | inr behind ↦
          let short_of : i < 64 = omega (arith, h, long) in
          back i behind short_of ∙ sym (zero_filled-get octets i short_of behind)
    ])

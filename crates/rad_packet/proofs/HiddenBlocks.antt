-- Blocks of 16 octets, hidden and revealed one after another.
use Rattle.std.proofs.Common.{◌≡◌, ℕ, zero, suc, ◌/◌, ◌%◌, ◌<◌, ◌≤◌, List, [], ◌∷◌, ◌++◌, length, take, drop, get_or, refl, sym, ap, ◌∙◌, arith}
use Rattle.std.specs.Prelude.{bit_xor}
use Rattle.std.proofs.lemmas.List.{append-nil, append_assoc, ext_get_or, length-drop}
use Rattle.md5.specs.Md5.{md5}
use Rattle.rad_packet.specs.Hiding.{blocks_in, blocks_of, xored, hidden_blocks, revealed_blocks}

-- ---- a block and a digest

pub xored-length : (block digest : List ℕ) → length block ≤ length digest → length (xored block digest) ≡ length block
xored-length [] digest fits = refl
xored-length (octet ∷ block) [] fits = omega (arith, fits)
xored-length (octet ∷ block) (key ∷ digest) fits = ap suc (xored-length block digest (omega (arith, fits)))

pub xored-get : (block digest : List ℕ) (i : ℕ) → i < length block → length block ≤ length digest
    → get_or (xored block digest) i 0 ≡ bit_xor (get_or block i 0) (get_or digest i 0)
xored-get [] digest i within fits = omega (arith, within)
xored-get (octet ∷ block) [] i within fits = omega (arith, fits)
xored-get (octet ∷ block) (key ∷ digest) zero within fits = refl
xored-get (octet ∷ block) (key ∷ digest) (suc i) within fits = xored-get block digest i (omega (arith, within)) (omega (arith, fits))

pub is_xored : (block digest octets : List ℕ) → length octets ≡ length block → length block ≤ length digest
    → ((i : ℕ) → i < length block → get_or octets i 0 ≡ bit_xor (get_or block i 0) (get_or digest i 0))
    → octets ≡ xored block digest
is_xored block digest octets same fits each =
    ext_get_or 0 octets (xored block digest) (same ∙ sym (xored-length block digest fits)) (λ i h.
    let within : i < length block = omega (arith, h, same) in
    each i within ∙ sym (xored-get block digest i within fits))

-- ---- the blocks

pub blocks_of-more : (octets : List ℕ) → length octets % 16 ≡ 0 → 0 < length octets
    → blocks_of octets ≡ take 16 octets ∷ blocks_of (drop 16 octets)
blocks_of-more octets whole some =
    let turns : length octets / 16 ≡ suc (length (drop 16 octets) / 16) = omega (arith, length-drop 16 octets) in
    ap (λ (count : ℕ). blocks_in count octets) turns

blocks_of-none : (octets : List ℕ) → length octets ≡ 0 → blocks_of octets ≡ []
blocks_of-none octets none =
    let turns : length octets / 16 ≡ 0 = omega (arith, none) in
    ap (λ (count : ℕ). blocks_in count octets) turns

-- ---- a chain that is hidden

-- what is hidden so far, and what is left
pub record Hides (secret first whole digest rest hidden : List ℕ) : Type 0 where
  pub blocks : length rest % 16 ≡ 0
  pub left : hidden ++ hidden_blocks secret digest (blocks_of rest) ≡ hidden_blocks secret first (blocks_of whole)

pub Hides-more : (secret first whole digest rest hidden : List ℕ) → 0 < length rest
    → Hides secret first whole digest rest hidden
    → Hides secret first whole (md5 (secret ++ xored (take 16 rest) digest)) (drop 16 rest) (hidden ++ xored (take 16 rest) digest)
unfolding hidden_blocks
Hides-more secret first whole digest rest hidden some so_far =
    let block = xored (take 16 rest) digest in
    let after = hidden_blocks secret (md5 (secret ++ block)) (blocks_of (drop 16 rest)) in
    record {
      blocks = omega (arith, so_far.blocks, length-drop 16 rest);
      left = append_assoc hidden block after
          ∙ ap (λ (blocks : List (List ℕ)). hidden ++ hidden_blocks secret digest blocks) (sym (blocks_of-more rest so_far.blocks some))
          ∙ so_far.left;
    }

pub Hides-end : (secret first whole digest rest hidden : List ℕ) → length rest ≡ 0
    → Hides secret first whole digest rest hidden → hidden ≡ hidden_blocks secret first (blocks_of whole)
unfolding hidden_blocks
Hides-end secret first whole digest rest hidden none so_far =
    sym (append-nil hidden)
    ∙ ap (λ (blocks : List (List ℕ)). hidden ++ hidden_blocks secret digest blocks) (sym (blocks_of-none rest none))
    ∙ so_far.left

-- ---- a chain that is revealed

-- what is revealed so far, and what is left
pub record Reveals (secret first whole digest rest revealed : List ℕ) : Type 0 where
  pub blocks : length rest % 16 ≡ 0
  pub left : revealed ++ revealed_blocks secret digest (blocks_of rest) ≡ revealed_blocks secret first (blocks_of whole)

pub Reveals-more : (secret first whole digest rest revealed : List ℕ) → 0 < length rest
    → Reveals secret first whole digest rest revealed
    → Reveals secret first whole (md5 (secret ++ take 16 rest)) (drop 16 rest) (revealed ++ xored (take 16 rest) digest)
unfolding revealed_blocks
Reveals-more secret first whole digest rest revealed some so_far =
    let block = xored (take 16 rest) digest in
    let after = revealed_blocks secret (md5 (secret ++ take 16 rest)) (blocks_of (drop 16 rest)) in
    record {
      blocks = omega (arith, so_far.blocks, length-drop 16 rest);
      left = append_assoc revealed block after
          ∙ ap (λ (blocks : List (List ℕ)). revealed ++ revealed_blocks secret digest blocks) (sym (blocks_of-more rest so_far.blocks some))
          ∙ so_far.left;
    }

pub Reveals-end : (secret first whole digest rest revealed : List ℕ) → length rest ≡ 0
    → Reveals secret first whole digest rest revealed → revealed ≡ revealed_blocks secret first (blocks_of whole)
unfolding revealed_blocks
Reveals-end secret first whole digest rest revealed none so_far =
    sym (append-nil revealed)
    ∙ ap (λ (blocks : List (List ℕ)). revealed ++ revealed_blocks secret digest blocks) (sym (blocks_of-none rest none))
    ∙ so_far.left

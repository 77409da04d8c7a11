-- What was hidden is revealed.
use Rattle.std.proofs.Common.{◌≡◌, ℕ, zero, suc, ◌+◌, ◌*◌, ◌/◌, ◌%◌, ◌<◌, ◌≤◌, List, [], ◌∷◌, ◌++◌, length, take, drop, refl, sym, ap, ◌∙◌, arith}
use Rattle.std.specs.Prelude.{bit_xor, replicate}
use Rattle.std.specs.Int.Bits.{xor_self, xor_zero_r}
use Rattle.std.proofs.lemmas.List.{length-append, length-drop, length-replicate, length-take-le, take-append-drop, take_at, drop_at, nil_from_length}
use lib.Bits.{xor_assoc}
use Rattle.md5.specs.Md5.{md5}
use Rattle.md5.proofs.StandardFacts.{length-md5}
use Rattle.rad_packet.specs.Hiding.{padding_after, padded, blocks_in, xored, hidden_blocks, revealed_blocks, hidden, revealed, without_trailing_zeros, IsHiddenLength, HasNoTrailingZero}
use Rattle.rad_packet.proofs.HiddenBlocks.{xored-length}
use Rattle.rad_packet.proofs.TrailingZeros.{zeros_at_end, no_zero_at_end}

xor_twice : (octet key : ℕ) → bit_xor (bit_xor octet key) key ≡ octet
xor_twice octet key = xor_assoc octet key key ∙ ap (bit_xor octet) (xor_self key) ∙ xor_zero_r octet

xored_twice : (block digest : List ℕ) → length block ≤ length digest → xored (xored block digest) digest ≡ block
xored_twice [] digest fits = refl
xored_twice (octet ∷ block) [] fits = absurd (omega (arith, fits))
xored_twice (octet ∷ block) (key ∷ digest) fits =
    let rest = xored_twice block digest (omega (arith, fits)) in
    ap (λ (first : ℕ). first ∷ xored (xored block digest) digest) (xor_twice octet key)
    ∙ ap (λ (others : List ℕ). octet ∷ others) rest

block-length : (digest octets : List ℕ) → length digest ≡ 16 → 16 ≤ length octets → length (xored (take 16 octets) digest) ≡ 16
block-length digest octets long enough =
    let front : length (take 16 octets) ≡ 16 = length-take-le 16 octets enough in
    xored-length (take 16 octets) digest (omega (arith, long, front)) ∙ front

hidden-length : (count : ℕ) (secret digest octets : List ℕ) → length digest ≡ 16 → length octets ≡ count * 16
    → length (hidden_blocks secret digest (blocks_in count octets)) ≡ count * 16
unfolding hidden_blocks
hidden-length zero secret digest octets long whole = refl
hidden-length (suc count) secret digest octets long whole =
    let block = xored (take 16 octets) digest in
    let next = md5 (secret ++ block) in
    let rest = hidden-length count secret next (drop 16 octets) (length-md5 (secret ++ block)) (omega (arith, whole, length-drop 16 octets)) in
    let front = block-length digest octets long (omega (arith, whole)) in
    omega (arith, length-append block (hidden_blocks secret next (blocks_in count (drop 16 octets))), rest, front)

undone : (count : ℕ) (secret digest octets : List ℕ) → length digest ≡ 16 → length octets ≡ count * 16
    → revealed_blocks secret digest (blocks_in count (hidden_blocks secret digest (blocks_in count octets))) ≡ octets
unfolding hidden_blocks revealed_blocks
undone zero secret digest octets long whole = sym (nil_from_length octets whole)
undone (suc count) secret digest octets long whole =
    let block = xored (take 16 octets) digest in
    let next = md5 (secret ++ block) in
    let others = hidden_blocks secret next (blocks_in count (drop 16 octets)) in
    let rest = undone count secret next (drop 16 octets) (length-md5 (secret ++ block)) (omega (arith, whole, length-drop 16 octets)) in
    let enough : 16 ≤ length octets = omega (arith, whole) in
    let front : length block ≡ 16 = block-length digest octets long enough in
    let twice : xored block digest ≡ take 16 octets =
    xored_twice (take 16 octets) digest (omega (arith, length-take-le 16 octets enough, long)) in
    ap (λ (first : List ℕ). xored first digest
    ++ revealed_blocks secret (md5 (secret ++ first)) (blocks_in count (drop 16 (block ++ others)))) (take_at block others 16 front)
    ∙ ap (λ (after : List ℕ). xored block digest ++ revealed_blocks secret next (blocks_in count after)) (drop_at block others 16 front)
    ∙ ap (λ (after : List ℕ). xored block digest ++ after) rest
    ∙ ap (λ (first : List ℕ). first ++ drop 16 octets) twice
    ∙ take-append-drop 16 octets

-- ---- a password

padding-whole : (count : ℕ) → (count + padding_after count) % 16 ≡ 0
padding-whole zero = refl
padding-whole (suc count) = omega arith

padding-more : (count : ℕ) → 0 < count + padding_after count
padding-more zero = omega arith
padding-more (suc count) = omega arith

padding-limit : (count : ℕ) → count ≤ 128 → count + padding_after count ≤ 128
padding-limit zero short = omega arith
padding-limit (suc count) short = omega (arith, short)

padded-length : (password : List ℕ) → length (padded password) ≡ length password + padding_after (length password)
padded-length password =
    let padding = padding_after (length password) in
    omega (arith, length-append password (replicate padding 0), length-replicate {A = ℕ} padding 0)

padded-blocks : (password : List ℕ) → length (padded password) ≡ length (padded password) / 16 * 16
padded-blocks password = omega (arith, padded-length password, padding-whole (length password))

password-length : (password secret authenticator : List ℕ)
    → length (hidden password secret authenticator) ≡ length (padded password)
password-length password secret authenticator =
    let blocks = padded-blocks password in
    hidden-length (length (padded password) / 16) secret (md5 (secret ++ authenticator)) (padded password) (length-md5 (secret ++ authenticator)) blocks
    ∙ sym blocks

pub hidden-has_length : (password secret authenticator : List ℕ) → length password ≤ 128
    → IsHiddenLength (length (hidden password secret authenticator))
hidden-has_length password secret authenticator short =
    let long = password-length password secret authenticator in
    let count = length password in
    record {
      some = omega (arith, long, padded-length password, padding-more count);
      limit = omega (arith, long, padded-length password, padding-limit count short);
      whole = omega (arith, long, padded-length password, padding-whole count);
    }

pub hidden-undone : (password secret authenticator : List ℕ) → HasNoTrailingZero password
    → revealed (hidden password secret authenticator) secret authenticator ≡ password
hidden-undone password secret authenticator none =
    let first = md5 (secret ++ authenticator) in
    let sent = hidden password secret authenticator in
    let turns : length sent / 16 ≡ length (padded password) / 16 =
    ap (λ (count : ℕ). count / 16) (password-length password secret authenticator) in
    ap (λ (count : ℕ). without_trailing_zeros (revealed_blocks secret first (blocks_in count sent))) turns
    ∙ ap without_trailing_zeros
    (undone (length (padded password) / 16) secret first (padded password) (length-md5 (secret ++ authenticator)) (padded-blocks password))
    ∙ zeros_at_end password (padding_after (length password))
    ∙ no_zero_at_end password none

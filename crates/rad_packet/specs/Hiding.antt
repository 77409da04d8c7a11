-- How a User-Password is hidden: RFC 2865 section 5.2.
use Rattle.std.specs.Prelude.{ℕ, zero, suc, Bool, ◌==◌, ◌&&◌, nat_le, nat_lt, ◌≡◌, ◌<◌, ◌≤◌, ◌-◌, ◌/◌, ◌%◌, ◌^◌, min, List, [], ◌∷◌, ◌++◌, length, take, drop, reverse, replicate, bit_xor}
use Rattle.md5.specs.Md5.{md5}
use Rattle.rad_packet.specs.declared.hiding.HideFault.{HideFault}
use Rattle.rad_packet.specs.declared.hiding.HideFault.TheVariants as hide_fault
use Rattle.rad_packet.specs.declared.hiding.RevealFault.{RevealFault}
use Rattle.rad_packet.specs.declared.hiding.RevealFault.TheVariants as reveal_fault

-- How many octets fill so many up to the next multiple of 16, and no octets up to 16 (RFC 2865 section 5.2).
abbrev pub padding_after : ℕ → ℕ
padding_after zero = 16
padding_after (suc count) = 15 - count % 16

-- The password with zero octets after it up to a multiple of 16, and up to 16 where it is empty (RFC 2865 section 5.2).
abbrev pub padded : List ℕ → List ℕ
padded password = password ++ replicate (padding_after (length password)) 0

-- The first so many blocks of 16 octets, p(1), p(2) and so on (RFC 2865 section 5.2).
abbrev pub blocks_in : ℕ → List ℕ → List (List ℕ)
blocks_in zero octets = []
blocks_in (suc count) octets = take 16 octets ∷ blocks_in count (drop 16 octets)

-- The blocks of octets whose number is a multiple of 16 (RFC 2865 section 5.2).
abbrev pub blocks_of : List ℕ → List (List ℕ)
blocks_of octets = blocks_in (length octets / 16) octets

-- A block xor a digest, octet by octet (RFC 2865 section 5.2).
abbrev pub xored : List ℕ → List ℕ → List ℕ
xored [] digest = []
xored (octet ∷ block) [] = []
xored (octet ∷ block) (key ∷ digest) = bit_xor octet key ∷ xored block digest

-- The hidden blocks one after another, where the digest b(i) of the first is given: c(i) is p(i) xor b(i), and b(i + 1)
-- is the MD5 of the secret and c(i) (RFC 2865 section 5.2).
unfoldable pub hidden_blocks : List ℕ → List ℕ → List (List ℕ) → List ℕ
hidden_blocks secret digest [] = []
hidden_blocks secret digest (block ∷ blocks) =
    xored block digest ++ hidden_blocks secret (md5 (secret ++ xored block digest)) blocks

-- The inverse of the chain: p(i) is c(i) xor b(i), with the same digests (RFC 2865 section 5.2).
unfoldable pub revealed_blocks : List ℕ → List ℕ → List (List ℕ) → List ℕ
revealed_blocks secret digest [] = []
revealed_blocks secret digest (block ∷ blocks) =
    xored block digest ++ revealed_blocks secret (md5 (secret ++ block)) blocks

-- A password as it is sent: b(1) is the MD5 of the secret and the Request Authenticator (RFC 2865 section 5.2).
abbrev pub hidden : List ℕ → List ℕ → List ℕ → List ℕ
hidden password secret authenticator = hidden_blocks secret (md5 (secret ++ authenticator)) (blocks_of (padded password))

-- Octets without the zero octets at their front (this project's own).
abbrev pub without_leading_zeros : List ℕ → List ℕ
without_leading_zeros [] = []
without_leading_zeros (zero ∷ octets) = without_leading_zeros octets
without_leading_zeros (suc octet ∷ octets) = suc octet ∷ octets

-- Octets without the zero octets at their end, which are the padding (RFC 2865 section 5.2).
abbrev pub without_trailing_zeros : List ℕ → List ℕ
without_trailing_zeros octets = reverse (without_leading_zeros (reverse octets))

-- The password that was hidden as these octets, without the zero octets at its end (RFC 2865 section 5.2).
abbrev pub revealed : List ℕ → List ℕ → List ℕ → List ℕ
revealed octets secret authenticator =
    without_trailing_zeros (revealed_blocks secret (md5 (secret ++ authenticator)) (blocks_of octets))

-- Octets can be a hidden password: 16 to 128 of them, a multiple of 16 (RFC 2865 section 5.2).
pub record IsHiddenLength (count : ℕ) : Type 0 where
  pub some : 0 < count
  pub limit : count ≤ 128
  pub whole : count % 16 ≡ 0

-- Whether so many octets can be a hidden password (RFC 2865 section 5.2).
abbrev pub is_hidden_length : ℕ → Bool
is_hidden_length count = nat_lt 0 count && nat_le count 128 && count % 16 == 0

-- A count as an error carries it, in 32 bits (this project's own).
abbrev pub carried : ℕ → ℕ
carried count = min count (2 ^ 32 - 1)

-- When hiding a password is refused: TooLong exactly above 128 octets, with its length (RFC 2865 section 5.2).
abbrev pub HideRefused : List ℕ → HideFault → Type 0
HideRefused password (hide_fault.TooLong count) = (128 < length password) × (count ≡ carried (length password))
HideRefused password hide_fault.NoMemory = length password ≤ 128

-- When revealing octets is refused: BadLength exactly where they can't be a hidden password, with their length
-- (RFC 2865 section 5.2).
abbrev pub RevealRefused : List ℕ → RevealFault → Type 0
RevealRefused octets (reveal_fault.BadLength count) = ¬ IsHiddenLength (length octets) × (count ≡ carried (length octets))
RevealRefused octets reveal_fault.NoMemory = IsHiddenLength (length octets)

-- Octets have no zero octet at their end: they aren't others and then a zero octet (this project's own).
abbrev pub HasNoTrailingZero : List ℕ → Type 0
HasNoTrailingZero octets = (front : List ℕ) → ¬ (octets ≡ front ++ 0 ∷ [])

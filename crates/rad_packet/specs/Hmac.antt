-- HMAC with MD5: RFC 2104.
use Rattle.std.specs.Prelude.{ℕ, ◌-◌, nat_lt, if◌then◌else◌, List, ◌++◌, length, map, replicate, bit_xor}
use Rattle.md5.specs.Md5.{md5}

-- Octets with zero octets behind them up to a block of 64 (RFC 2104 section 2, step 1).
abbrev pub zero_filled : List ℕ → List ℕ
zero_filled octets = octets ++ replicate (64 - length octets) 0

-- A key as a block of 64 octets: a longer key is hashed first (RFC 2104 sections 2 and 3).
abbrev pub key_block : List ℕ → List ℕ
key_block key = if nat_lt 64 (length key) then zero_filled (md5 key) else zero_filled key

-- Octets, each of them xor one octet: ipad is 36 and opad 5c, in hexadecimal (RFC 2104 section 2).
abbrev pub xored_with : ℕ → List ℕ → List ℕ
xored_with pad octets = map (λ (octet : ℕ). bit_xor octet pad) octets

-- HMAC-MD5 of a text under a key: H(K XOR opad, H(K XOR ipad, text)) (RFC 2104 section 2).
abbrev pub hmac_md5 : List ℕ → List ℕ → List ℕ
hmac_md5 key text = md5 (xored_with 0x5c (key_block key) ++ md5 (xored_with 0x36 (key_block key) ++ text))

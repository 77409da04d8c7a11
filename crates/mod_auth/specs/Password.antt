-- Whether a password is the one that is known. After FreeRADIUS' rlm_pap(5); the digests are those of RFC 1321 and
-- FIPS 180-4.
use Rattle.std.specs.Prelude.{ℕ, Bool, ◌==◌, nat_lt, List, ◌++◌, length, take, drop, Option, Some, None, Result, Ok, Err, if◌then◌else◌}
use Rattle.std.specs.List.{list_all}
use Rattle.std.specs.Char.{is_ascii_hexdigit}
use Rattle.std.specs.Str.{bytes_eq}
use Rattle.md5.specs.Md5.{md5}
use Rattle.sha1.specs.Sha1.{sha1}
use Rattle.hex.specs.Hex.{decode_of}
use Rattle.hex.specs.declared.error.FromHexError.{FromHexError}
use Rattle.rad_words.specs.declared.codes.Code.{Code}
use Rattle.rad_words.specs.declared.codes.Code.TheVariants as code
use Rattle.rad_value.specs.declared.values.Pair.{Pair}
use Rattle.mod_lists.specs.Values.{octets_of}
use Rattle.mod_auth.specs.declared.scheme.Scheme.{Scheme}
use Rattle.mod_auth.specs.declared.scheme.Scheme.TheVariants.{Cleartext, Md5, Sha, SaltedSha}
use Rattle.mod_auth.specs.Known.{scheme_of}

-- The code for a comparison that was made.
abbrev pub verdict : Bool → Code
verdict equal = if equal then code.Ok else code.Reject

-- What was decoded, where it was.
abbrev pub decoded : Result (List ℕ) FromHexError → Option (List ℕ)
decoded (Ok octets) = Some octets
decoded (Err fault) = None

-- The octets that a digest's value stands for. A value of nothing but hexadecimal digits, of either case, counts as digits,
-- and stands for the octets that they spell; an odd number of digits spells none. Any other value stands for itself.
abbrev pub plain_octets : List ℕ → Option (List ℕ)
plain_octets value = if list_all is_ascii_hexdigit value then decoded (decode_of value) else Some value

-- Compares a digest with the octets by which it is known; invalid where they aren't as many.
abbrev pub digested : List ℕ → Option (List ℕ) → Code
digested digest None = code.Invalid
digested digest (Some known) = if length known == length digest then verdict (bytes_eq known digest) else code.Invalid

-- Compares the SHA-1 of a password and a salt with the octets by which it is known: 20 of the digest, and a salt of at least
-- one; invalid where they are fewer.
abbrev pub salted : List ℕ → Option (List ℕ) → Code
salted password None = code.Invalid
salted password (Some known) = if nat_lt 20 (length known) then verdict (bytes_eq (take 20 known) (sha1 (password ++ drop 20 known))) else code.Invalid

-- Compares a password with a value by which it is known: a cleartext octet by octet, the others by their digests.
abbrev pub by_scheme : Scheme → List ℕ → List ℕ → Code
by_scheme Cleartext password known = verdict (bytes_eq known password)
by_scheme Md5 password known = digested (md5 password) (plain_octets known)
by_scheme Sha password known = digested (sha1 password) (plain_octets known)
by_scheme SaltedSha password known = salted password (plain_octets known)

-- The code where the scheme and the octets are known, and invalid otherwise.
abbrev pub by_both : List ℕ → Option Scheme → Option (List ℕ) → Code
by_both password None known = code.Invalid
by_both password (Some scheme) None = code.Invalid
by_both password (Some scheme) (Some known) = by_scheme scheme password known

-- Compares a password with the pair by which it is known. A value that is neither a text nor octets is invalid.
abbrev pub compared : List ℕ → Pair → Code
compared password known = by_both password (scheme_of known.attr) (octets_of known.value)

-- Who is let in, in an operator's words: whoever knows the password. This project's own words; RFC 2865 section 5.3 for CHAP.
use Rattle.std.specs.Prelude.{ℕ, ◌≡◌, ◌≢◌, ◌⊎◌, true, false, List, [], ◌∷◌, ◌++◌, Some, Ok, not}
use Rattle.std.specs.List.{list_all}
use Rattle.std.specs.Char.{is_ascii_hexdigit}
use Rattle.md5.specs.Md5.{md5}
use Rattle.sha1.specs.Sha1.{sha1}
use Rattle.hex.specs.Hex.{decode_of}
use Rattle.rad_value.specs.declared.values.Pair.{Pair}
use Rattle.rad_value.specs.declared.values.Value.TheVariants as value
use Rattle.rad_value.specs.Pairs.{first_value}
use Rattle.rad_value.specs.PairLists.{PairLists}
use Rattle.mod_lists.specs.Values.{octets_of, first_octets}
use Rattle.mod_auth.specs.declared.scheme.Scheme.{Scheme}
use Rattle.mod_auth.specs.declared.scheme.Scheme.TheVariants.{Cleartext, Md5, Sha, SaltedSha}
use Rattle.mod_auth.specs.Attributes.{user_password, chap_password, cleartext_password}
use Rattle.mod_auth.specs.Known.{scheme_of, is_password}
use Rattle.mod_auth.specs.Chap.{challenge_of}

-- A value is these octets in hexadecimal digits, or as they stand where they aren't nothing but such digits.
abbrev pub IsWritten : List ℕ → List ℕ → Type 0
IsWritten octets value = ((list_all is_ascii_hexdigit value ≡ true) × (decode_of value ≡ Ok octets)) ⊎ ((list_all is_ascii_hexdigit value ≡ false) × (value ≡ octets))

-- A value by which a password is known: the password, or its digest as written, or the digest of it and a salt, which isn't
-- empty and stands behind.
abbrev pub Knows : Scheme → List ℕ → List ℕ → Type 0
Knows Cleartext password known = known ≡ password
Knows Md5 password known = IsWritten (md5 password) known
Knows Sha password known = IsWritten (sha1 password) known
Knows SaltedSha password known = (salt : List ℕ) × (salt ≢ []) × IsWritten (sha1 (password ++ salt) ++ salt) known

-- A pair is the first in a list of the four that make a password known, and knows it in this way by these octets.
pub record IsFirstKnown (scheme : Scheme) (known : List ℕ) (pairs : List Pair) : Type 0 where
  pub before : List Pair
  pub pair : Pair
  pub after : List Pair
  pub list : pairs ≡ before ++ pair ∷ after
  pub none_before : list_all (λ p. not (is_password p)) before ≡ true
  pub kind : scheme_of pair.attr ≡ Some scheme
  pub octets : octets_of pair.value ≡ Some known

-- The request's first User-Password is a text that isn't empty, and the first of the four passwords in the control list knows
-- it.
pub record KnowsThePassword (lists : PairLists) : Type 0 where
  pub password : List ℕ
  pub given : first_value user_password lists.request ≡ Some (value.Text password)
  pub some : password ≢ []
  pub scheme : Scheme
  pub known : List ℕ
  pub first : IsFirstKnown scheme known lists.control
  pub knows : Knows scheme password known

-- The request's CHAP-Password is a CHAP Identifier and the MD5 of it, the user's Cleartext-Password and the challenge.
pub record HasTheDigest (authenticator : List ℕ) (lists : PairLists) : Type 0 where
  pub identifier : ℕ
  pub password : List ℕ
  pub known : first_octets cleartext_password lists.control ≡ Some password
  pub given : first_octets chap_password lists.request ≡ Some (identifier ∷ md5 (identifier ∷ password ++ challenge_of lists authenticator))

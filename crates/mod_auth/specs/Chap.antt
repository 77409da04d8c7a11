-- What the module `chap` does: the digest that a request carries is compared with that of the password that is known. After
-- FreeRADIUS' rlm_chap(5); RFC 1994 section 4.1 and RFC 2865 sections 2.2 and 5.3.
use Rattle.std.specs.Prelude.{ℕ, Bool, ◌||◌, ◌==◌, List, ◌++◌, length, take, drop, Option, Some, None, if◌then◌else◌}
use Rattle.std.specs.Option.{is_none, is_some, unwrap_or}
use Rattle.std.specs.Str.{bytes_eq}
use Rattle.md5.specs.Md5.{md5}
use Rattle.rad_words.specs.declared.codes.Code.{Code}
use Rattle.rad_words.specs.declared.codes.Code.TheVariants as code
use Rattle.rad_words.specs.declared.sections.Section.{Section}
use Rattle.rad_words.specs.declared.sections.Section.TheVariants as section
use Rattle.rad_value.specs.declared.edits.ListName.TheVariants.{Control}
use Rattle.rad_value.specs.Pairs.{first_value}
use Rattle.rad_value.specs.PairLists.{PairLists}
use Rattle.mod_lists.specs.Values.{first_octets}
use Rattle.mod_lists.specs.Edits.{text_set, edit_or_fail}
use Rattle.mod_auth.specs.Attributes.{chap_password, chap_challenge, auth_type, cleartext_password}
use Rattle.mod_auth.specs.Password.{verdict}

-- The challenge: the request's first CHAP-Challenge, whole, or else the Request Authenticator (RFC 2865 section 5.3).
abbrev pub challenge_of : PairLists → List ℕ → List ℕ
challenge_of lists authenticator = unwrap_or (first_octets chap_challenge lists.request) authenticator

-- Auth-Type is set already, or the request has no CHAP-Password.
abbrev pub is_idle : PairLists → Bool
is_idle lists = is_some (first_value auth_type lists.control) || is_none (first_value chap_password lists.request)

-- In authorize it sets Auth-Type to the instance's name, where the request has a CHAP-Password.
abbrev pub authorized : List ℕ → PairLists → PairLists × Code
authorized name lists = if is_idle lists then (lists, code.Noop) else edit_or_fail (text_set Control auth_type name) (λ edited. (edited, code.Ok)) lists

-- A CHAP-Password of 17 octets is the CHAP Identifier and the MD5 of it, the password and the challenge (RFC 2865
-- section 5.3); another length is invalid.
abbrev pub compared : List ℕ → List ℕ → List ℕ → Code
compared given password challenge = if length given == 17 then verdict (bytes_eq (drop 1 given) (md5 (take 1 given ++ password ++ challenge))) else code.Invalid

-- What it answers to a CHAP-Password and the password that is known; invalid without one of them.
abbrev pub answered : Option (List ℕ) → Option (List ℕ) → List ℕ → Code
answered None password challenge = code.Invalid
answered (Some given) None challenge = code.Invalid
answered (Some given) (Some password) challenge = compared given password challenge

-- What it answers in authenticate, to the first CHAP-Password of the request and the first Cleartext-Password of the control
-- list.
abbrev pub authenticated : List ℕ → PairLists → Code
authenticated authenticator lists =
    answered (first_octets chap_password lists.request) (first_octets cleartext_password lists.control) (challenge_of lists authenticator)

-- What an instance of this name does in a section. It has no method for the other sections, which do nothing with it.
abbrev pub chap_done : List ℕ → Section → List ℕ → PairLists → PairLists × Code
chap_done name section.Authorize authenticator lists = authorized name lists
chap_done name section.Authenticate authenticator lists = (lists, authenticated authenticator lists)
chap_done name section.Session authenticator lists = (lists, code.Noop)
chap_done name section.Preacct authenticator lists = (lists, code.Noop)
chap_done name section.Accounting authenticator lists = (lists, code.Noop)
chap_done name section.PostAuth authenticator lists = (lists, code.Noop)

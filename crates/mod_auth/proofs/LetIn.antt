-- Whoever is let in knows the password, and whoever knows it is let in.
use Rattle.std.specs.Prelude.{is_some}
use Rattle.std.specs.Option.{option_and_then}
use Rattle.std.specs.Str.{bytes_eq}
use Rattle.std.proofs.Common.{◌≡◌, ◌≢◌, ◌↔◌, ℕ, true, false, cond, eqb, List, [], ◌∷◌, ◌++◌, length, Option, Some, None, refl, ap, ◌∙◌, eq-eqb, arith}
use Rattle.md5.specs.Md5.{md5}
use Rattle.md5.proofs.StandardFacts.{length-md5}
use Rattle.rad_words.specs.declared.codes.Code.TheVariants as code
use Rattle.rad_value.specs.declared.values.Pair.{Pair}
use Rattle.rad_value.specs.declared.values.Value.{Value}
use Rattle.rad_value.specs.declared.values.Value.TheVariants as value
use Rattle.rad_value.specs.Pairs.{first_value, text_of}
use Rattle.rad_value.specs.PairLists.{PairLists}
use Rattle.mod_lists.specs.Values.{octets_of, first_octets}
use Rattle.mod_auth.specs.declared.scheme.Scheme.{Scheme}
use Rattle.mod_auth.specs.Attributes.{user_password, chap_password, cleartext_password}
use Rattle.mod_auth.specs.Known.{scheme_of, is_password, known_password}
use Rattle.mod_auth.specs.Password.{verdict, by_scheme, by_both, compared}
use Rattle.mod_auth.specs.Pap as pap
use Rattle.mod_auth.specs.Chap as chap
use Rattle.mod_auth.specs.LetsIn.{KnowsThePassword, HasTheDigest}
use Rattle.mod_auth.proofs.FirstKnown.{IsFirst, found_is, first_found}
use Rattle.mod_auth.proofs.Digests.{lets_in_is, is_let_in, same_octets, octets_same}

-- ---- the password that is given

text_found : (v : Option Value) (password : List ℕ) → option_and_then text_of v ≡ Some password → v ≡ Some (value.Text password)
text_found None password is = absurd (cc)
text_found (Some (value.Text text)) password is = ap (λ (t : List ℕ). Some (value.Text t)) (let same : text ≡ password = cc in same)
text_found (Some (value.Octets octets)) password is = absurd (cc)
text_found (Some (value.Addr address)) password is = absurd (cc)
text_found (Some (value.Number number)) password is = absurd (cc)
text_found (Some (value.Date seconds)) password is = absurd (cc)
text_found (Some (value.Byte number)) password is = absurd (cc)
text_found (Some (value.Short number)) password is = absurd (cc)

-- ---- the pair by which it is known

-- A password was compared with a value by one of the four schemes.
record IsCompared (password : List ℕ) (scheme : Option Scheme) (octets : Option (List ℕ)) : Type 0 where
  by : Scheme
  known : List ℕ
  scheme_is : scheme ≡ Some by
  octets_are : octets ≡ Some known
  ok : by_scheme by password known ≡ code.Ok

both_known : (password : List ℕ) (scheme : Option Scheme) (octets : Option (List ℕ)) → by_both password scheme octets ≡ code.Ok → IsCompared password scheme octets
both_known password None octets is = absurd (cc)
both_known password (Some scheme) None is = absurd (cc)
both_known password (Some scheme) (Some known) is = record { by = scheme; known = known; scheme_is = refl; octets_are = refl; ok = is }

-- ---- authenticate of `pap`

-- A password that isn't empty was compared with the pair by which it is known.
record IsAnsweredOk (given : Option (List ℕ)) (known : Option Pair) : Type 0 where
  password : List ℕ
  given_is : given ≡ Some password
  some : password ≢ []
  pair : Pair
  known_is : known ≡ Some pair
  ok : compared password pair ≡ code.Ok

not_nil : (c : ℕ) (more : List ℕ) → (c ∷ more) ≢ []
not_nil c more is = absurd (cc)

answered_is : (given : Option (List ℕ)) (known : Option Pair) → pap.answered given known ≡ code.Ok → IsAnsweredOk given known
answered_is None known is = absurd (cc)
answered_is (Some []) known is = absurd (cc)
answered_is (Some (c ∷ more)) None is = absurd (cc)
answered_is (Some (c ∷ more)) (Some pair) is = record { password = c ∷ more; given_is = refl; some = not_nil c more; pair = pair; known_is = refl; ok = is }

is_answered : (password : List ℕ) (pair : Pair) → password ≢ [] → compared password pair ≡ code.Ok → pap.answered (Some password) (Some pair) ≡ code.Ok
is_answered [] pair some is = absurd (some refl)
is_answered (c ∷ more) pair some is = is

knows : (lists : PairLists) → pap.authenticated lists ≡ code.Ok → KnowsThePassword lists
knows lists is =
    let found = answered_is (pap.given_password lists) (known_password lists) is in
    let known = both_known found.password (scheme_of found.pair.attr) (octets_of found.pair.value) found.ok in
    let first = found_is is_password lists.control found.pair found.known_is in
    record {
      password = found.password;
      given = text_found (first_value user_password lists.request) found.password found.given_is;
      some = found.some;
      scheme = known.by;
      known = known.known;
      first = record {
        before = first.before;
        pair = found.pair;
        after = first.after;
        list = first.list;
        none_before = first.none_before;
        kind = known.scheme_is;
        octets = known.octets_are;
      };
      knows = lets_in_is known.by found.password known.known known.ok;
    }

let_in : (lists : PairLists) → KnowsThePassword lists → pap.authenticated lists ≡ code.Ok
let_in lists k =
    let first : IsFirst is_password lists.control k.first.pair = record {
      before = k.first.before;
      after = k.first.after;
      list = k.first.list;
      none_before = k.first.none_before;
      passes = ap is_some k.first.kind;
    } in
    let given : pap.given_password lists ≡ Some k.password = ap (option_and_then text_of) k.given in
    let known : known_password lists ≡ Some k.first.pair = first_found is_password lists.control k.first.pair first in
    let same : compared k.password k.first.pair ≡ code.Ok =
    ap (λ (s : Option Scheme). by_both k.password s (octets_of k.first.pair.value)) k.first.kind
    ∙ ap (λ (o : Option (List ℕ)). by_both k.password (Some k.scheme) o) k.first.octets
    ∙ is_let_in k.scheme k.password k.known k.knows in
    ap (λ (g : Option (List ℕ)). pap.answered g (known_password lists)) given
    ∙ ap (λ (p : Option Pair). pap.answered (Some k.password) p) known
    ∙ is_answered k.password k.first.pair k.some same

pub pap_lets_in : (lists : PairLists) → (pap.authenticated lists ≡ code.Ok) ↔ KnowsThePassword lists
pap_lets_in lists = (knows lists, let_in lists)

-- ---- authenticate of `chap`

-- A CHAP-Password is an octet and the digest of it, the password and the challenge.
record IsDigestOf (given password challenge : List ℕ) : Type 0 where
  identifier : ℕ
  is : given ≡ identifier ∷ md5 (identifier ∷ password ++ challenge)

compared_is : (given password challenge : List ℕ) → chap.compared given password challenge ≡ code.Ok → IsDigestOf given password challenge
compared_is [] password challenge is = absurd (cc)
compared_is (identifier ∷ digest) password challenge is =
    (elim (eqb (length (identifier ∷ digest)) 17) as (λ b. cond b (verdict (bytes_eq digest (md5 (identifier ∷ password ++ challenge)))) code.Invalid ≡ code.Ok → IsDigestOf (identifier ∷ digest) password challenge) [
      | true ↦ λ is. record { identifier = identifier; is = ap (λ (d : List ℕ). identifier ∷ d) (same_octets digest (md5 (identifier ∷ password ++ challenge)) is) }
      | false ↦ λ is. absurd (cc)
    ]) is

is_compared : (identifier : ℕ) (password challenge : List ℕ) → chap.compared (identifier ∷ md5 (identifier ∷ password ++ challenge)) password challenge ≡ code.Ok
is_compared identifier password challenge =
    let digest = md5 (identifier ∷ password ++ challenge) in
    let of_16 : length digest ≡ 16 = length-md5 (identifier ∷ password ++ challenge) in
    let of_17 : length (identifier ∷ digest) ≡ 17 = omega (arith, of_16) in
    rw (eq-eqb (length (identifier ∷ digest)) 17 of_17) (octets_same digest digest refl)

-- Both a CHAP-Password and a password are there, and they go together.
record AreDigestOf (given password : Option (List ℕ)) (challenge : List ℕ) : Type 0 where
  identifier : ℕ
  known : List ℕ
  password_is : password ≡ Some known
  given_is : given ≡ Some (identifier ∷ md5 (identifier ∷ known ++ challenge))

both_given : (given password : Option (List ℕ)) (challenge : List ℕ) → chap.answered given password challenge ≡ code.Ok → AreDigestOf given password challenge
both_given None password challenge is = absurd (cc)
both_given (Some given) None challenge is = absurd (cc)
both_given (Some given) (Some password) challenge is =
    let found = compared_is given password challenge is in
    record { identifier = found.identifier; known = password; password_is = refl; given_is = ap Some found.is }

has_digest : (authenticator : List ℕ) (lists : PairLists) → chap.authenticated authenticator lists ≡ code.Ok → HasTheDigest authenticator lists
has_digest authenticator lists is =
    let found = both_given (first_octets chap_password lists.request) (first_octets cleartext_password lists.control) (chap.challenge_of lists authenticator) is in
    record { identifier = found.identifier; password = found.known; known = found.password_is; given = found.given_is }

digest_lets_in : (authenticator : List ℕ) (lists : PairLists) → HasTheDigest authenticator lists → chap.authenticated authenticator lists ≡ code.Ok
digest_lets_in authenticator lists h =
    let challenge = chap.challenge_of lists authenticator in
    ap (λ (g : Option (List ℕ)). chap.answered g (first_octets cleartext_password lists.control) challenge) h.given
    ∙ ap (λ (p : Option (List ℕ)). chap.answered (Some (h.identifier ∷ md5 (h.identifier ∷ h.password ++ challenge))) p challenge) h.known
    ∙ is_compared h.identifier h.password challenge

pub chap_lets_in : (authenticator : List ℕ) (lists : PairLists) → (chap.authenticated authenticator lists ≡ code.Ok) ↔ HasTheDigest authenticator lists
chap_lets_in authenticator lists = (has_digest authenticator lists, digest_lets_in authenticator lists)

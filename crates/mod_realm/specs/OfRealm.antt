-- A request by a user of a realm, in an operator's words. After FreeRADIUS' rlm_realm(5).
use Rattle.std.specs.Prelude.{ℕ, ◌≡◌, ◌≤◌, ◌==◌, true, false, not, List, ◌∷◌, ◌++◌, length, Some}
use Rattle.std.specs.List.{list_all}
use Rattle.rad_value.specs.Pairs.{first_text}
use Rattle.rad_value.specs.PairLists.{PairLists}
use Rattle.mod_realm.specs.declared.parting.RealmFormat.{RealmFormat}
use Rattle.mod_realm.specs.declared.parting.RealmFormat.TheVariants.{Suffix, Prefix}
use Rattle.mod_realm.specs.Attributes.{user_name}
use Rattle.mod_realm.specs.Realms.{Realm, realm_of}
use Rattle.mod_realm.specs.Named.{has_realm}

-- A user and a realm as a format writes them: the user, the delimiter and the realm; or the realm, the delimiter and the user.
abbrev pub name_of : RealmFormat → ℕ → List ℕ → List ℕ → List ℕ
name_of Suffix delimiter user realm = user ++ delimiter ∷ realm
name_of Prefix delimiter user realm = realm ++ delimiter ∷ user

-- The request's User-Name is a user and a realm as the format writes them, where the realm has no delimiter and is configured,
-- case aside; the request has no Realm yet, and room for two pairs.
pub record IsOfRealm (realms : List Realm) (format : RealmFormat) (delimiter : ℕ) (lists : PairLists) (user : List ℕ) (one : Realm) : Type 0 where
  pub written : List ℕ
  pub name : first_text user_name lists.request ≡ Some (name_of format delimiter user written)
  pub undelimited : list_all (λ octet. not (octet == delimiter)) written ≡ true
  pub configured : realm_of realms written ≡ Some one
  pub new : has_realm lists ≡ false
  pub room : length lists.request ≤ 510

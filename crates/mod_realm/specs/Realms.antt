-- The realms of a site: a list, no two of one name, case aside. After FreeRADIUS' proxy.conf and rlm_realm(5).
use Rattle.std.specs.Prelude.{ℕ, ◌≡◌, Bool, List, map, codes, Option}
use Rattle.std.specs.Char.{to_ascii_lowercase}
use Rattle.std.specs.List.{find}
use Rattle.std.specs.Option.{option_or}
use Rattle.std.specs.Str.{bytes_eq}
use Rattle.std.specs.declared.vec.Vec.{Vec}
use Rattle.std.specs.declared.alloc.Global.{Global}
pub use Rattle.mod_realm.specs.declared.realms.Realm.{Realm}

-- Whether two names are the same, case aside.
abbrev pub same_name : List ℕ → List ℕ → Bool
same_name a b = bytes_eq (map to_ascii_lowercase a) (map to_ascii_lowercase b)

-- The realm of a name, case aside.
abbrev pub realm_of : List Realm → List ℕ → Option Realm
realm_of realms name = find (λ (realm : Realm). same_name name realm.name) realms

-- The realm of a name, case aside, or else that of the name DEFAULT.
abbrev pub realm_for : List Realm → List ℕ → Option Realm
realm_for realms name = option_or (realm_of realms name) (realm_of realms (codes "DEFAULT"))

-- What a map's entry stands for.
abbrev pub entry_realm : Vec ℕ Global × Realm → Realm
entry_realm entry = entry.1

-- Each realm has its name in lower case as its key.
abbrev pub AreKeyed : List (Vec ℕ Global × Realm) → Type 0
AreKeyed entries = map (λ (entry : Vec ℕ Global × Realm). entry.0.items) entries ≡ map (λ (entry : Vec ℕ Global × Realm). map to_ascii_lowercase entry.1.name) entries

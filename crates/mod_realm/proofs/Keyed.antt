-- What a map finds by a name in lower case is what its list of realms finds by the name.
use Rattle.std.specs.Prelude.{map}
use Rattle.std.specs.Char.{to_ascii_lowercase}
use Rattle.std.specs.Str.{bytes_eq}
use Rattle.std.specs.declared.vec.Vec.{Vec}
use Rattle.std.specs.declared.alloc.Global.{Global}
use Rattle.std.proofs.lemmas.List.{map-append}
use Rattle.std.specs.Map.{lookup}
use Rattle.std.proofs.Common.{◌≡◌, ℕ, Bool, false, cond, List, [], ◌∷◌, ◌++◌, Option, Some, None, is_some, refl, sym, ap, ◌∙◌, true≢false}
use Rattle.indexmap.specs.IndexMap.{IndexMap, get_by, insert_entry}
use Rattle.indexmap.proofs.CallerLemmas.{insert_entry-new}
use Rattle.mod_realm.specs.Realms.{Realm, realm_of, entry_realm, AreKeyed}

abbrev Entries : Type 0
Entries = List (Vec ℕ Global × Realm)

abbrev pub is_key : List ℕ → Vec ℕ Global → Bool
is_key key k = bytes_eq key k.items

head_of : (a b : List ℕ) (more others : List (List ℕ)) → a ∷ more ≡ b ∷ others → a ≡ b
head_of a b more others is = cc

tail_of : (a b : List ℕ) (more others : List (List ℕ)) → a ∷ more ≡ b ∷ others → more ≡ others
tail_of a b more others is = cc

-- a look at the map by the name in lower case finds the realm of the name
pub finds : (name : List ℕ) (es : Entries) → AreKeyed es → lookup (is_key (map to_ascii_lowercase name)) es ≡ realm_of (map entry_realm es) name
finds name [] keyed = refl
finds name (e ∷ es) keyed =
    let key = map to_ascii_lowercase name in
    let head : e.0.items ≡ map to_ascii_lowercase e.1.name =
    head_of e.0.items (map to_ascii_lowercase e.1.name) (map (λ (x : Vec ℕ Global × Realm). x.0.items) es) (map (λ (x : Vec ℕ Global × Realm). map to_ascii_lowercase x.1.name) es) keyed in
    let rest : AreKeyed es =
    tail_of e.0.items (map to_ascii_lowercase e.1.name) (map (λ (x : Vec ℕ Global × Realm). x.0.items) es) (map (λ (x : Vec ℕ Global × Realm). map to_ascii_lowercase x.1.name) es) keyed in
    ap (λ (items : List ℕ). cond (bytes_eq key items) (Some e.1) (lookup (is_key key) es)) head
    ∙ ap (λ (more : Option Realm). cond (bytes_eq key (map to_ascii_lowercase e.1.name)) (Some e.1) more) (finds name es rest)

none_of : {X : Type 0} (x : Option X) → is_some x ≡ false → x ≡ None
none_of None e = refl
none_of (Some x) e = absurd (true≢false e)

abbrev same_key : Vec ℕ Global → Vec ℕ Global → Bool
same_key x y = bytes_eq x.items y.items

module _ {S : Type 0} (m : IndexMap (Vec ℕ Global) Realm S) (key : Vec ℕ Global) (one : Realm) (name : List ℕ)
    (keyed : AreKeyed m.entries) (key_is : key.items ≡ map to_ascii_lowercase name) (free : is_some (get_by (is_key key.items) m) ≡ false) where
  -- a new name goes last
  pub entered : insert_entry same_key m.entries key one ≡ m.entries ++ (key, one) ∷ []
  entered = insert_entry-new same_key m key one (none_of _ free)

  pub realms_entered : map entry_realm (insert_entry same_key m.entries key one) ≡ map entry_realm m.entries ++ one ∷ []
  realms_entered = ap (map entry_realm) entered ∙ map-append entry_realm m.entries ((key, one) ∷ [])

  pub keyed_entered : one.name ≡ name → AreKeyed (insert_entry same_key m.entries key one)
  keyed_entered is =
      let keys : Vec ℕ Global × Realm → List ℕ = λ x. x.0.items in
      let names : Vec ℕ Global × Realm → List ℕ = λ x. map to_ascii_lowercase x.1.name in
      let head : key.items ≡ map to_ascii_lowercase one.name = key_is ∙ ap (map to_ascii_lowercase) (sym is) in
      ap (map keys) entered
      ∙ map-append keys m.entries ((key, one) ∷ [])
      ∙ ap (λ (l : List (List ℕ)). l ++ key.items ∷ []) keyed
      ∙ ap (λ (v : List ℕ). map names m.entries ++ v ∷ []) head
      ∙ sym (map-append names m.entries ((key, one) ∷ []))
      ∙ sym (ap (map names) entered)

-- A name is parted where an operator reads it to be.
use Rattle.std.specs.Prelude.{reverse, position, nat_lt, not}
use Rattle.std.specs.List.{list_all, position_or_len}
use Rattle.std.proofs.Common.{◌≡◌, ℕ, suc, ◌+◌, ◌-◌, ◌<◌, ◌==◌, Bool, true, false, cond, ◌&&◌, List, [], ◌∷◌, ◌++◌, length, take, drop, Some, None, refl, ap, ◌∙◌, arith, one-add, length-append, append_assoc, eq-eqb}
use Rattle.std.proofs.Math.Seq.{take-append_seam, drop-append-add}
use Rattle.std.proofs.lemmas.Bool.{and_parts, lt-ltb}
use Rattle.std.proofs.lemmas.List.{reverse-append, length-reverse}
use Rattle.std.proofs.lemmas.List.Folds.{list_all-append}
use Rattle.mod_realm.specs.declared.parting.RealmFormat.TheVariants.{Suffix, Prefix}
use Rattle.mod_realm.specs.declared.parting.RealmFormat.{RealmFormat}
use Rattle.mod_realm.specs.OfRealm.{name_of}
use Rattle.mod_realm.specs.Parting.{at_last, at_first, parted}

both : (a b : Bool) → a ≡ true → b ≡ true → (a && b) ≡ true
both a b p q = rw (p, q) refl

all_reversed : (p : ℕ → Bool) (xs : List ℕ) → list_all p xs ≡ true → list_all p (reverse xs) ≡ true
all_reversed p [] all = refl
all_reversed p (x ∷ xs) all =
    let parts = and_parts (p x) (list_all p xs) all in
    let one : list_all p (x ∷ []) ≡ true = rw parts.0 refl in
    ap (list_all p) (reverse-append (x ∷ []) xs)
    ∙ list_all-append p (reverse xs) (x ∷ [])
    ∙ both (list_all p (reverse xs)) (list_all p (x ∷ [])) (all_reversed p xs parts.1) one

not_false : (b : Bool) → not b ≡ true → b ≡ false
not_false false is = refl
not_false true is = absurd (cc)

module _ (p : ℕ → Bool) (d : ℕ) (is : p d ≡ true) where
  place_of : (xs ys : List ℕ) → list_all (λ x. not (p x)) xs ≡ true → position_or_len p (xs ++ d ∷ ys) ≡ length xs
  place_of [] ys none = rw is refl
  place_of (x ∷ xs) ys none =
      let parts = and_parts (not (p x)) (list_all (λ x. not (p x)) xs) none in
      rw (not_false (p x) parts.0) (one-add (position_or_len p (xs ++ d ∷ ys)) ∙ ap suc (place_of xs ys parts.1))

  -- the first that passes stands behind those that don't
  pub first_at : (xs ys : List ℕ) → list_all (λ x. not (p x)) xs ≡ true → position p (xs ++ d ∷ ys) ≡ Some (length xs)
  first_at xs ys none =
      let name = xs ++ d ∷ ys in
      let long = length-append xs (d ∷ ys) in
      let within : length xs < length name = omega (arith, long) in
      ap (λ n. cond (nat_lt n (length name)) (Some n) None) (place_of xs ys none)
      ∙ ap (λ b. cond b (Some (length xs)) None) (lt-ltb (length xs) (length name) within)

module _ (d : ℕ) (user realm : List ℕ) (none : list_all (λ octet. not (octet == d)) realm ≡ true) where
  pub suffix_parted : parted Suffix d (user ++ d ∷ realm) ≡ (user, realm)
  suffix_parted =
      let name = user ++ d ∷ realm in
      let turned : reverse name ≡ reverse realm ++ d ∷ reverse user =
      reverse-append user (d ∷ realm)
      ∙ ap (λ (l : List ℕ). l ++ reverse user) (reverse-append (d ∷ []) realm)
      ∙ append_assoc (reverse realm) (d ∷ []) (reverse user) in
      let place : position (λ octet. octet == d) (reverse name) ≡ Some (length realm) =
      ap (position (λ octet. octet == d)) turned
      ∙ first_at (λ octet. octet == d) d (eq-eqb d d refl) (reverse realm) (reverse user) (all_reversed (λ octet. not (octet == d)) realm none)
      ∙ ap Some (length-reverse realm) in
      let long : length name ≡ length user + length (d ∷ realm) = length-append user (d ∷ realm) in
      let before : length name - length realm - 1 ≡ length user = omega (arith, long) in
      let behind : length name - length realm - 1 + 1 ≡ length user + 1 = omega (arith, long) in
      ap (at_last name) place
      ∙ ap (λ n. (take n name, drop (length name - length realm - 1 + 1) name)) before
      ∙ ap (λ n. (take (length user) name, drop n name)) behind
      ∙ ap (λ (u : List ℕ). (u, drop (length user + 1) name)) (take-append_seam user (d ∷ realm))
      ∙ ap (λ (r : List ℕ). (user, r)) (drop-append-add user (d ∷ realm) 1)

  pub prefix_parted : parted Prefix d (realm ++ d ∷ user) ≡ (user, realm)
  prefix_parted =
      let name = realm ++ d ∷ user in
      ap (at_first name) (first_at (λ octet. octet == d) d (eq-eqb d d refl) realm user none)
      ∙ ap (λ (u : List ℕ). (u, take (length realm) name)) (drop-append-add realm (d ∷ user) 1)
      ∙ ap (λ (r : List ℕ). (user, r)) (take-append_seam realm (d ∷ user))

pub name_parted : (format : RealmFormat) (d : ℕ) (user realm : List ℕ) → list_all (λ octet. not (octet == d)) realm ≡ true → parted format d (name_of format d user realm) ≡ (user, realm)
name_parted Suffix d user realm none = suffix_parted d user realm none
name_parted Prefix d user realm none = prefix_parted d user realm none

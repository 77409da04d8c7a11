-- What an edit leaves of the pairs of its attribute, and of the others.
use Rattle.std.proofs.Common.{◌≡◌, ℕ, ◌+◌, Bool, true, false, not, cond, ◌&&◌, ◌||◌, List, [], ◌∷◌, ◌++◌, filter, map, take, drop, refl, sym, ap, ◌∙◌, one-add, add-one, eq-eqb}
use Rattle.std.specs.List.{list_any, before_first, after_first, position_or_len}
use Rattle.std.proofs.lemmas.List.{append-nil, map-append}
use Rattle.std.proofs.lemmas.List.Elements.{filter-append}
use Rattle.rad_words.specs.declared.attributes.AttrId.{AttrId}
use Rattle.rad_words.specs.declared.attributes.Space.{Space}
use Rattle.rad_words.specs.declared.attributes.Space.TheVariants.{Standard, Vendor, Internal}
use Rattle.rad_words.specs.Attribute.{same_space}
use Rattle.rad_value.specs.declared.values.Pair.{Pair}
use Rattle.rad_value.specs.declared.values.Value.{Value}
use Rattle.rad_value.specs.declared.edits.EditOp.{EditOp}
use Rattle.rad_value.specs.declared.edits.EditOp.TheVariants.{AddIfNone, Set, Append, Remove, RemoveAll, Keep}
use Rattle.rad_value.specs.Comparison.{is_equal}
use Rattle.rad_value.specs.Edit.{edited_by, has_attr, is_equal_pair, is_other_pair}
use Rattle.rad_value.specs.Pairs.{is_of, pairs_of, values_of}

-- ---- filters

-- a filter after another is the filter by both
pub filter-both : {X : Type 0} (p q r : X → Bool) → ((x : X) → r x ≡ (q x && p x)) → (xs : List X)
    → filter p (filter q xs) ≡ filter r xs
filter-both p q r both [] = refl
filter-both {X} p q r both (x ∷ xs) =
    rw both
    (elim (q x) as (λ b. filter p (cond b (x ∷ filter q xs) (filter q xs)) ≡ cond (b && p x) (x ∷ filter r xs) (filter r xs)) [
      | true ↦
          elim (p x) as (λ c. cond c (x ∷ filter p (filter q xs)) (filter p (filter q xs)) ≡ cond c (x ∷ filter r xs) (filter r xs)) [
            | true ↦ ap (λ (list : List X). x ∷ list) (filter-both p q r both xs)
            | false ↦ filter-both p q r both xs
          ]
      | false ↦ filter-both p q r both xs
    ])

-- values by a test that looks at the value alone
pub values-filter : (t : Value → Bool) (pairs : List Pair)
    → map (λ (p : Pair). p.value) (filter (λ (p : Pair). t p.value) pairs) ≡ filter t (map (λ (p : Pair). p.value) pairs)
values-filter t [] = refl
values-filter t (p ∷ pairs) =
    elim (t p.value) as (λ b. map (λ (p : Pair). p.value) (cond b (p ∷ filter (λ (p : Pair). t p.value) pairs) (filter (λ (p : Pair). t p.value) pairs))
    ≡ cond b (p.value ∷ filter t (map (λ (p : Pair). p.value) pairs)) (filter t (map (λ (p : Pair). p.value) pairs))) [
      | true ↦ ap (λ (list : List Value). p.value ∷ list) (values-filter t pairs)
      | false ↦ values-filter t pairs
    ]

pub nothing-left : {X : Type 0} (p : X → Bool) (xs : List X) → filter p (filter (λ x. not (p x)) xs) ≡ []
nothing-left p [] = refl
nothing-left p (x ∷ xs) =
    (elim (p x) as (λ b. p x ≡ b → filter p (cond (not b) (x ∷ filter (λ x. not (p x)) xs) (filter (λ x. not (p x)) xs)) ≡ []) [
      | true ↦ λ is. nothing-left p xs
      | false ↦ λ is. rw is (nothing-left p xs)
    ]) refl

-- ---- an attribute is its own

same_space-self : (s : Space) → same_space s s ≡ true
same_space-self Standard = refl
same_space-self (Vendor v) = eq-eqb v v refl
same_space-self Internal = refl

pub is_of-own : (pair : Pair) → is_of pair.attr pair ≡ true
is_of-own pair = rw (same_space-self pair.attr.space, eq-eqb pair.attr.number pair.attr.number refl) refl

-- ---- truth values

and-self : (b : Bool) → b ≡ (b && b)
and-self true = refl
and-self false = refl

other-stays : (i e : Bool) → not i ≡ (not (i && e) && not i)
other-stays true true = refl
other-stays true false = refl
other-stays false e = refl

own-differs : (i e : Bool) → (i && not e) ≡ (not (i && e) && i)
own-differs true true = refl
own-differs true false = refl
own-differs false e = refl

own-equals : (i e : Bool) → (i && e) ≡ (not (i && not e) && i)
own-equals true true = refl
own-equals true false = refl
own-equals false e = refl

-- ---- the set list

-- the pair that was set is the only one that passes
pub set-own : (p : Pair → Bool) (pair : Pair) → p pair ≡ true → (pairs : List Pair)
    → filter p (before_first p pairs ++ pair ∷ filter (λ x. not (p x)) (after_first p pairs)) ≡ pair ∷ []
set-own p pair own [] = rw own refl
set-own p pair own (x ∷ xs) =
    let q : Pair → Bool = λ x. not (p x) in
    let n : ℕ = position_or_len p xs in
    (elim (p x) as (λ b. p x ≡ b → filter p (take (cond (not b) (1 + n) 0) (x ∷ xs) ++ pair ∷ filter q (drop (cond (not b) (1 + n) 0 + 1) (x ∷ xs))) ≡ pair ∷ []) [
      | true ↦ λ is. rw own (ap (λ (list : List Pair). pair ∷ list) (nothing-left p xs))
      | false ↦ λ is. simp (one-add, add-one) (rw is (simp add-one at (set-own p pair own xs)))
    ]) refl

-- the others stay
pub set-others : (p : Pair → Bool) (pair : Pair) → p pair ≡ true → (pairs : List Pair)
    → filter (λ x. not (p x)) (before_first p pairs ++ pair ∷ filter (λ x. not (p x)) (after_first p pairs)) ≡ filter (λ x. not (p x)) pairs
set-others p pair own [] = rw own refl
set-others p pair own (x ∷ xs) =
    let q : Pair → Bool = λ x. not (p x) in
    let n : ℕ = position_or_len p xs in
    (elim (p x) as (λ b. p x ≡ b → filter q (take (cond (not b) (1 + n) 0) (x ∷ xs) ++ pair ∷ filter q (drop (cond (not b) (1 + n) 0 + 1) (x ∷ xs))) ≡ cond (not b) (x ∷ filter q xs) (filter q xs)) [
      | true ↦ λ is. rw own (filter-both q q q (λ y. and-self (q y)) xs)
      | false ↦ λ is. simp (one-add, add-one) (rw is (ap (λ (list : List Pair). x ∷ list) (simp add-one at (set-others p pair own xs))))
    ]) refl

-- ---- one more at the tail

pub tail-others : (pair : Pair) (pairs : List Pair)
    → filter (λ p. not (is_of pair.attr p)) (pairs ++ pair ∷ []) ≡ filter (λ p. not (is_of pair.attr p)) pairs
tail-others pair pairs =
    let q : Pair → Bool = λ p. not (is_of pair.attr p) in
    let none : filter q (pair ∷ []) ≡ [] = rw is_of-own refl in
    filter-append q pairs (pair ∷ [])
    ∙ ap (λ (list : List Pair). filter q pairs ++ list) none
    ∙ append-nil (filter q pairs)

pub tail-own : (pair : Pair) (pairs : List Pair)
    → filter (is_of pair.attr) (pairs ++ pair ∷ []) ≡ filter (is_of pair.attr) pairs ++ pair ∷ []
tail-own pair pairs =
    let one : filter (is_of pair.attr) (pair ∷ []) ≡ pair ∷ [] = rw is_of-own refl in
    filter-append (is_of pair.attr) pairs (pair ∷ []) ∙ ap (λ (list : List Pair). filter (is_of pair.attr) pairs ++ list) one

none-own : {X : Type 0} (p : X → Bool) (xs : List X) → list_any p xs ≡ false → filter p xs ≡ []
none-own p [] none = refl
none-own p (x ∷ xs) none =
    (elim (p x) as (λ b. (b || list_any p xs) ≡ false → cond b (x ∷ filter p xs) (filter p xs) ≡ []) [
      | true ↦ λ k. cc
      | false ↦ λ k. none-own p xs k
    ]) none

-- ---- the laws

pub edit-others : (o : EditOp) (pair : Pair) (pairs : List Pair)
    → filter (λ p. not (is_of pair.attr p)) (edited_by o pair pairs) ≡ filter (λ p. not (is_of pair.attr p)) pairs
edit-others AddIfNone pair pairs =
    elim (has_attr pair.attr pairs) as (λ b. filter (λ p. not (is_of pair.attr p)) (cond b pairs (pairs ++ pair ∷ [])) ≡ filter (λ p. not (is_of pair.attr p)) pairs) [
      | true ↦ refl
      | false ↦ tail-others pair pairs
    ]
edit-others Set pair pairs = set-others (is_of pair.attr) pair (is_of-own pair) pairs
edit-others Append pair pairs = tail-others pair pairs
edit-others Remove pair pairs =
    filter-both (λ p. not (is_of pair.attr p)) (λ p. not (is_equal_pair pair p)) (λ p. not (is_of pair.attr p))
    (λ p. other-stays (is_of pair.attr p) (is_equal p.value pair.value)) pairs
edit-others RemoveAll pair pairs =
    filter-both (λ p. not (is_of pair.attr p)) (λ p. not (is_of pair.attr p)) (λ p. not (is_of pair.attr p))
    (λ p. and-self (not (is_of pair.attr p))) pairs
edit-others Keep pair pairs =
    filter-both (λ p. not (is_of pair.attr p)) (λ p. not (is_other_pair pair p)) (λ p. not (is_of pair.attr p))
    (λ p. other-stays (is_of pair.attr p) (not (is_equal p.value pair.value))) pairs

pub edit-added : (pair : Pair) (pairs : List Pair) → values_of pair.attr (edited_by AddIfNone pair pairs)
    ≡ cond (has_attr pair.attr pairs) (values_of pair.attr pairs) (pair.value ∷ [])
edit-added pair pairs =
    (elim (has_attr pair.attr pairs) as (λ b. has_attr pair.attr pairs ≡ b → values_of pair.attr (cond b pairs (pairs ++ pair ∷ [])) ≡ cond b (values_of pair.attr pairs) (pair.value ∷ [])) [
      | true ↦ λ is. refl
      | false ↦ λ is.
          ap (map (λ (p : Pair). p.value)) (tail-own pair pairs ∙ ap (λ (list : List Pair). list ++ pair ∷ []) (none-own (is_of pair.attr) pairs is))
    ]) refl

pub edit-set : (pair : Pair) (pairs : List Pair) → values_of pair.attr (edited_by Set pair pairs) ≡ pair.value ∷ []
edit-set pair pairs = ap (map (λ (p : Pair). p.value)) (set-own (is_of pair.attr) pair (is_of-own pair) pairs)

pub edit-appended : (pair : Pair) (pairs : List Pair) → values_of pair.attr (edited_by Append pair pairs)
    ≡ values_of pair.attr pairs ++ pair.value ∷ []
edit-appended pair pairs =
    ap (map (λ (p : Pair). p.value)) (tail-own pair pairs) ∙ map-append (λ (p : Pair). p.value) (pairs_of pair.attr pairs) (pair ∷ [])

values-both : (attr : AttrId) (t : Value → Bool) (q : Pair → Bool)
    → ((p : Pair) → (is_of attr p && t p.value) ≡ (q p && is_of attr p)) → (pairs : List Pair)
    → values_of attr (filter q pairs) ≡ filter t (values_of attr pairs)
values-both attr t q both pairs =
    let r : Pair → Bool = λ p. is_of attr p && t p.value in
    ap (map (λ (p : Pair). p.value)) (filter-both (is_of attr) q r both pairs
    ∙ sym (filter-both (λ (p : Pair). t p.value) (is_of attr) r (λ p. refl) pairs))
    ∙ values-filter t (pairs_of attr pairs)

pub edit-removed : (pair : Pair) (pairs : List Pair) → values_of pair.attr (edited_by Remove pair pairs)
    ≡ filter (λ v. not (is_equal v pair.value)) (values_of pair.attr pairs)
edit-removed pair pairs =
    values-both pair.attr (λ v. not (is_equal v pair.value)) (λ p. not (is_equal_pair pair p))
    (λ p. own-differs (is_of pair.attr p) (is_equal p.value pair.value)) pairs

pub edit-cleared : (pair : Pair) (pairs : List Pair) → values_of pair.attr (edited_by RemoveAll pair pairs) ≡ []
edit-cleared pair pairs = ap (map (λ (p : Pair). p.value)) (nothing-left (is_of pair.attr) pairs)

pub edit-kept : (pair : Pair) (pairs : List Pair) → values_of pair.attr (edited_by Keep pair pairs)
    ≡ filter (λ v. is_equal v pair.value) (values_of pair.attr pairs)
edit-kept pair pairs =
    values-both pair.attr (λ v. is_equal v pair.value) (λ p. not (is_other_pair pair p))
    (λ p. own-equals (is_of pair.attr p) (is_equal p.value pair.value)) pairs

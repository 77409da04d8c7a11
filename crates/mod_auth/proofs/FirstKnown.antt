-- The first of a list that passes a test.
use Rattle.std.specs.Prelude.{not}
use Rattle.std.specs.List.{find, list_all, slice_get}
use Rattle.std.proofs.Common.{◌≡◌, ℕ, zero, suc, ◌+◌, Bool, true, false, cond, ◌&&◌, List, [], ◌∷◌, ◌++◌, drop, Some, None, refl, ap, ◌∙◌, add-one}

-- An element is the first of a list that passes: none before it does.
pub record IsFirst {X : Type 0} (p : X → Bool) (xs : List X) (x : X) : Type 0 where
  pub before : List X
  pub after : List X
  pub list : xs ≡ before ++ x ∷ after
  pub none_before : list_all (λ y. not (p y)) before ≡ true
  pub passes : p x ≡ true

module _ {X : Type 0} (p : X → Bool) where
  pub found_is : (xs : List X) (x : X) → find p xs ≡ Some x → IsFirst p xs x
  found_is [] x is = absurd (cc)
  found_is (y ∷ xs) x is =
      (elim (p y) as (λ b. p y ≡ b → cond b (Some y) (find p xs) ≡ Some x → IsFirst p (y ∷ xs) x) [
        | true ↦ λ here is. let same : y ≡ x = cc in record { before = []; after = xs; list = ap (λ z. z ∷ xs) same; none_before = refl; passes = rw same at here }
        | false ↦ λ other is.
            let more = found_is xs x is in
            record { before = y ∷ more.before; after = more.after; list = ap (λ zs. y ∷ zs) more.list; none_before = rw other more.none_before; passes = more.passes }
      ]) refl is

  found_behind : (before after : List X) (x : X) → list_all (λ y. not (p y)) before ≡ true → p x ≡ true → find p (before ++ x ∷ after) ≡ Some x
  found_behind [] after x none passes = rw passes refl
  found_behind (y ∷ before) after x none passes =
      (elim (p y) as (λ b. (not b && list_all (λ z. not (p z)) before) ≡ true → cond b (Some y) (find p (before ++ x ∷ after)) ≡ Some x) [
        | true ↦ λ none. absurd (cc)
        | false ↦ λ none. found_behind before after x none passes
      ]) none

  pub first_found : (xs : List X) (x : X) → IsFirst p xs x → find p xs ≡ Some x
  first_found xs x first = ap (find p) first.list ∙ found_behind first.before first.after x first.none_before first.passes

  -- a search from a place on: there, or further on, or past the end
  pub find_from : (xs : List X) (n : ℕ) (x : X) → slice_get xs n ≡ Some x → find p (drop n xs) ≡ cond (p x) (Some x) (find p (drop (n + 1) xs))
  find_from [] n x is = absurd (cc)
  find_from (y ∷ xs) zero x is = let same : y ≡ x = cc in rw same refl
  find_from (y ∷ xs) (suc n) x is = simp add-one (simp add-one at (find_from xs n x is))

  pub find_past : (xs : List X) (n : ℕ) → slice_get xs n ≡ None → find p (drop n xs) ≡ None
  find_past [] zero is = refl
  find_past [] (suc n) is = refl
  find_past (y ∷ xs) zero is = absurd (cc)
  find_past (y ∷ xs) (suc n) is = find_past xs n is

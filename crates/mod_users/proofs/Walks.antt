-- A walk along a list by places.
use Rattle.std.proofs.Common.{◌≡◌, ℕ, zero, suc, ◌+◌, Bool, ◌&&◌, ◌||◌, Some, None, List, [], ◌∷◌, drop, refl, ap, add-one}
use Rattle.std.specs.List.{slice_get, list_all, list_any}

module _ {X : Type 0} where
  -- what is left from a place on begins with what stands there
  pub drop-at : (xs : List X) (n : ℕ) (x : X) → slice_get xs n ≡ Some x → drop n xs ≡ x ∷ drop (n + 1) xs
  drop-at [] n x e = cc
  drop-at (y ∷ xs) zero x e = cc
  drop-at (y ∷ xs) (suc n) x e = simp add-one (simp add-one at (drop-at xs n x e))

  pub drop-past : (xs : List X) (n : ℕ) → slice_get xs n ≡ None → drop n xs ≡ []
  drop-past [] zero e = refl
  drop-past [] (suc n) e = refl
  drop-past (y ∷ xs) zero e = cc
  drop-past (y ∷ xs) (suc n) e = drop-past xs n e

  -- a test of all that is left
  pub list_all-at : (p : X → Bool) (xs : List X) (n : ℕ) (x : X) → slice_get xs n ≡ Some x → list_all p (drop n xs) ≡ (p x && list_all p (drop (n + 1) xs))
  list_all-at p xs n x e = ap (list_all p) (drop-at xs n x e)

  -- a test of some of what is left
  pub list_any-at : (p : X → Bool) (xs : List X) (n : ℕ) (x : X) → slice_get xs n ≡ Some x → list_any p (drop n xs) ≡ (p x || list_any p (drop (n + 1) xs))
  list_any-at p xs n x e = ap (list_any p) (drop-at xs n x e)

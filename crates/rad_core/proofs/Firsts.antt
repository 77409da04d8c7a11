-- The first element that passes a test, by its place.
use Rattle.std.proofs.Common.{ℕ, ◌≡◌, ◌+◌, ◌<◌, ◌≤◌, Bool, true, false, cond, ltb, List, ◌++◌, length, take, drop, Some, None, refl, ap, ◌∙◌, sym, subst, arith, add-one, append-nil}
use Rattle.std.specs.List.{find, position, position_or_len, before_first, after_first, remove, slice_get, slice_index_or}
use Rattle.std.proofs.lemmas.Bool.{ltb-true}
use Rattle.std.proofs.lemmas.Bool.Decides.{nat_tests}
use Rattle.std.proofs.lemmas.List.{take_all, drop_all}
use Rattle.std.proofs.lemmas.List.Folds.{find_at}
use Rattle.std.proofs.lemmas.Option.{slice_get_read, slice_get_past}

-- a place is known where the test that finds it passes
within : (n m i : ℕ) → cond (ltb n m) (Some n) None ≡ Some i → (n ≡ i) × (n < m)
within n m i h = ((elim (ltb n m) as (λ b. ltb n m ≡ b → cond b (Some n) None ≡ Some i → (n ≡ i) × (n < m)) [ true ↦ λ e k. (cc, ltb-true n m e) | false ↦ λ e k. cc ]) refl) h

-- and else there is none
past : (n m : ℕ) → cond (ltb n m) (Some n) None ≡ None → m ≤ n
past n m h = ((elim (ltb n m) as (λ b. ltb n m ≡ b → cond b (Some n) None ≡ None → m ≤ n) [ true ↦ λ e k. cc | false ↦ λ e k. grind (arith, nat_tests) ]) refl) h

module _ {X : Type 0} (p : X → Bool) (xs : List X) where
  -- the element at the first place
  pub found_at : (i : ℕ) (x : X) → position p xs ≡ Some i → x ≡ slice_index_or xs i x → find p xs ≡ Some x
  found_at i x h read =
      let w = within (position_or_len p xs) (length xs) i h in
      let inside : i < length xs = subst (λ n. n < length xs) w.0 w.1 in
      find_at p xs ∙ ap (slice_get xs) w.0 ∙ slice_get_read xs (length xs) i x refl inside read

  -- what is left without it
  pub left_at : (i : ℕ) → position p xs ≡ Some i → remove xs i ≡ before_first p xs ++ after_first p xs
  left_at i h =
      let w = within (position_or_len p xs) (length xs) i h in
      ap (remove xs) (sym w.0) ∙ ap (λ n. take (position_or_len p xs) xs ++ drop n xs) (sym (add-one (position_or_len p xs)))

  -- no element passes
  pub found_none : position p xs ≡ None → find p xs ≡ None
  found_none h = find_at p xs ∙ slice_get_past xs (position_or_len p xs) (past (position_or_len p xs) (length xs) h)

  pub left_none : position p xs ≡ None → xs ≡ before_first p xs ++ after_first p xs
  left_none h =
      let out = past (position_or_len p xs) (length xs) h in
      sym (ap (λ front. front ++ after_first p xs) (take_all (position_or_len p xs) xs out) ∙ ap (λ back. xs ++ back) (drop_all (position_or_len p xs + 1) xs (omega (arith, out))) ∙ append-nil xs)

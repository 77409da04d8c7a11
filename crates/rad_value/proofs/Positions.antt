-- The first place at which a test passes, and what a filter by the opposite test leaves around it.
use Rattle.std.proofs.Common.{◌≡◌, ℕ, suc, ◌+◌, ◌<◌, ◌≤◌, Bool, true, false, not, cond, ltb, ◌||◌, Some, None, is_some, List, [], ◌∷◌, ◌++◌, length, take, drop, filter, refl, ap, ◌∙◌, arith, one-add, add-one}
use Rattle.std.specs.List.{list_any, position, position_or_len, before_first, after_first, insert}
use Rattle.std.proofs.lemmas.Bool.{ltb-true}
use Rattle.std.proofs.lemmas.Bool.Decides.{nat_tests}
use Rattle.std.proofs.lemmas.List.Filters.{length-filter_both}

-- a list's place is known where the test that finds it passes
within : (n m i : ℕ) → cond (ltb n m) (Some n) None ≡ Some i → (n ≡ i) × (n < m)
within n m i h = ((elim (ltb n m) as (λ b. ltb n m ≡ b → cond b (Some n) None ≡ Some i → (n ≡ i) × (n < m)) [ true ↦ λ e k. (cc, ltb-true n m e) | false ↦ λ e k. cc ]) refl) h

module _ {X : Type 0} (p : X → Bool) where
  -- some element passes where the first place is within the list
  pub list_any-first : (xs : List X) → list_any p xs ≡ ltb (position_or_len p xs) (length xs)
  list_any-first [] = refl
  list_any-first (x ∷ xs) =
      elim (p x) as (λ b. (b || list_any p xs) ≡ ltb (cond (not b) (1 + position_or_len p xs) 0) (suc (length xs))) [
        | true ↦ grind (arith, nat_tests)
        | false ↦ list_any-first xs ∙ grind (arith, nat_tests)
      ]

  pub list_any-position : (xs : List X) → list_any p xs ≡ is_some (position p xs)
  list_any-position xs = rw (list_any-first xs) (elim (ltb (position_or_len p xs) (length xs)) as (λ b. b ≡ is_some (cond b (Some (position_or_len p xs)) None)) [ true ↦ refl | false ↦ refl ])

  -- what is put at the first place of a list whose passing elements have left
  insert_at_first : (xs : List X) (y : X) → position_or_len p xs < length xs → insert (filter (λ x. not (p x)) xs) (position_or_len p xs) y ≡ before_first p xs ++ y ∷ filter (λ x. not (p x)) (after_first p xs)
  insert_at_first [] y h = absurd (omega arith)
  insert_at_first (x ∷ xs) y h =
      let q : X → Bool = λ x. not (p x) in
      let n : ℕ = position_or_len p xs in
      (elim (p x) as (λ b. cond (not b) (1 + n) 0 < suc (length xs) → insert (cond (not b) (x ∷ filter q xs) (filter q xs)) (cond (not b) (1 + n) 0) y ≡ take (cond (not b) (1 + n) 0) (x ∷ xs) ++ y ∷ filter q (drop (cond (not b) (1 + n) 0 + 1) (x ∷ xs))) [
        | true ↦ λ _. refl
        | false ↦ λ k. simp (one-add, add-one) (simp add-one at (ap (λ t. x ∷ t) (insert_at_first xs y (omega arith))))
      ]) h

  pub insert_first : (xs : List X) (i : ℕ) (y : X) → position p xs ≡ Some i → insert (filter (λ x. not (p x)) xs) i y ≡ before_first p xs ++ y ∷ filter (λ x. not (p x)) (after_first p xs)
  insert_first xs i y h =
      let w = within _ _ i h in
      rw (← w.0) (insert_at_first xs y w.1)

  -- no element passes: the first place is the end
  pub append_first : (xs : List X) (y : X) → list_any p xs ≡ false → before_first p xs ++ y ∷ filter (λ x. not (p x)) (after_first p xs) ≡ xs ++ y ∷ []
  append_first [] y h = refl
  append_first (x ∷ xs) y h =
      let q : X → Bool = λ x. not (p x) in
      let n : ℕ = position_or_len p xs in
      (elim (p x) as (λ b. (b || list_any p xs) ≡ false → take (cond (not b) (1 + n) 0) (x ∷ xs) ++ y ∷ filter q (drop (cond (not b) (1 + n) 0 + 1) (x ∷ xs)) ≡ x ∷ (xs ++ y ∷ [])) [
        | true ↦ λ k. cc
        | false ↦ λ k. simp (one-add, add-one) (simp add-one at (ap (λ t. x ∷ t) (append_first xs y k)))
      ]) h

  -- where an element passes, a filter by the opposite test leaves fewer
  pub length-filter_not : (xs : List X) → list_any p xs ≡ true → length (filter (λ x. not (p x)) xs) < length xs
  length-filter_not [] h = cc
  length-filter_not (x ∷ xs) h =
      let q : X → Bool = λ x. not (p x) in
      (elim (p x) as (λ b. (b || list_any p xs) ≡ true → length (cond (not b) (x ∷ filter q xs) (filter q xs)) < suc (length xs)) [
        | true ↦ λ k. omega (arith, length-filter_both p q (λ _. refl) xs)
        | false ↦ λ k. omega (arith, length-filter_not xs k)
      ]) h

  first_within : (xs : List X) → position_or_len p xs ≤ length (filter (λ x. not (p x)) xs)
  first_within [] = omega arith
  first_within (x ∷ xs) =
      let q : X → Bool = λ x. not (p x) in
      elim (p x) as (λ b. cond (not b) (1 + position_or_len p xs) 0 ≤ length (cond (not b) (x ∷ filter q xs) (filter q xs))) [
        | true ↦ omega arith
        | false ↦ omega (arith, first_within xs)
      ]

  -- the first place is within what is left
  pub position_within : (xs : List X) (i : ℕ) → position p xs ≡ Some i → i ≤ length (filter (λ x. not (p x)) xs)
  position_within xs i h = let w = within _ _ i h in omega (arith, first_within xs)

-- Lists that are seen through a view: what is found, kept and left of them.
use Rattle.std.proofs.Common.{◌≡◌, ◌+◌, Bool, true, false, not, cond, List, [], ◌∷◌, ◌++◌, map, filter, take, drop, Some, refl, ap, ◌∙◌, sym}
use Rattle.std.specs.List.{find, position_or_len, before_first, after_first, take-map, drop-map}
use Rattle.std.specs.Option.{option_map}
use Rattle.std.proofs.lemmas.List.{map-append}

module _ {X Y : Type 0} (view : X → Y) (test : Y → Bool) where
  -- a test that reads what is seen may be made before or after
  pub map-filter : (xs : List X) → map view (filter (λ x. test (view x)) xs) ≡ filter test (map view xs)
  map-filter [] = refl
  map-filter (x ∷ xs) = elim (test (view x)) as (λ b. map view (cond b (x ∷ filter (λ y. test (view y)) xs) (filter (λ y. test (view y)) xs)) ≡ cond b (view x ∷ filter test (map view xs)) (filter test (map view xs))) [
    | true ↦ ap (λ ys. view x ∷ ys) (map-filter xs)
    | false ↦ map-filter xs
  ]

  -- so may a search
  pub map-find : (xs : List X) → option_map view (find (λ x. test (view x)) xs) ≡ find test (map view xs)
  map-find [] = refl
  map-find (x ∷ xs) = elim (test (view x)) as (λ b. option_map view (cond b (Some x) (find (λ y. test (view y)) xs)) ≡ cond b (Some (view x)) (find test (map view xs))) [
    | true ↦ refl
    | false ↦ map-find xs
  ]

  pub map-position : (xs : List X) → position_or_len (λ x. test (view x)) xs ≡ position_or_len test (map view xs)
  map-position [] = refl
  map-position (x ∷ xs) = ap (λ n. cond (not (test (view x))) (1 + n) 0) (map-position xs)

  -- and so may the first that passes be taken out
  pub map-before : (xs : List X) → map view (before_first (λ x. test (view x)) xs) ≡ before_first test (map view xs)
  map-before xs = sym (take-map view (position_or_len (λ x. test (view x)) xs) xs) ∙ ap (λ n. take n (map view xs)) (map-position xs)

  pub map-after : (xs : List X) → map view (after_first (λ x. test (view x)) xs) ≡ after_first test (map view xs)
  map-after xs = sym (drop-map view (position_or_len (λ x. test (view x)) xs + 1) xs) ∙ ap (λ n. drop (n + 1) (map view xs)) (map-position xs)

  pub map_parts : (xs : List X) → map view (before_first (λ x. test (view x)) xs ++ after_first (λ x. test (view x)) xs) ≡ before_first test (map view xs) ++ after_first test (map view xs)
  map_parts xs = map-append view (before_first (λ x. test (view x)) xs) (after_first (λ x. test (view x)) xs) ∙ ap (λ front. front ++ map view (after_first (λ x. test (view x)) xs)) (map-before xs) ∙ ap (λ back. before_first test (map view xs) ++ back) (map-after xs)

-- The locations of a match capture what its groups span.
use Rattle.std.proofs.Common.{◌≡◌, ℕ, zero, suc, ◌<◌, true, false, cond, List, [], ◌∷◌, map, Some, None, refl, ap, ◌∙◌, arith}
use Rattle.std.specs.Prelude.{nat_lt}
use Rattle.std.specs.Option.{option_and_then}
use borrow.Author.Tests.{ltb-true}
use Rattle.regex.specs.declared.locations.CaptureLocations.{CaptureLocations}
use Rattle.regex.specs.Patterns.{Re, Match, find}
use Rattle.regex.specs.Locations.{location, location_count, AreLocationsOf}
use Rattle.unlang_cond.specs.Looks.{cut_out, nine, span_of, group_span, looked, located, all_located}

same_map : {A B : Type 0} (f g : A → B) → ((x : A) → f x ≡ g x) → (xs : List A) → map f xs ≡ map g xs
same_map f g same [] = refl
same_map f g same (x ∷ xs) = ap (λ y. y ∷ map f xs) (same x) ∙ ap (λ ys. g x ∷ ys) (same_map f g same xs)

module _ (groups : ℕ) (re : Re) (text : List ℕ) (m : Match) (locations : CaptureLocations) (at : AreLocationsOf m locations) where
  inner : (n : ℕ) → n < location_count locations → location locations n ≡ span_of m n
  inner zero within = at.0 within
  inner (suc n) within = at.1 (suc n) (omega arith) within

  one_group : (n : ℕ) → location_count locations ≡ groups → located locations text n ≡ option_and_then (cut_out text) (group_span groups m n)
  unfolding group_span
  one_group n count = rw (← count)
      ((elim (nat_lt n (location_count locations)) as (λ b. nat_lt n (location_count locations) ≡ b
      → cond b (option_and_then (cut_out text) (location locations n)) None ≡ option_and_then (cut_out text) (cond b (span_of m n) None)) [
        | true ↦ λ e. ap (option_and_then (cut_out text)) (inner n (ltb-true n (location_count locations) e))
        | false ↦ λ e. refl
      ]) refl)

  pub some_look : find re text 0 ≡ Some m → location_count locations ≡ groups → Some (all_located locations text) ≡ looked groups re text
  unfolding looked
  some_look found count =
      rw found (ap Some (same_map (located locations text) (λ n. option_and_then (cut_out text) (group_span groups m n)) (λ n. one_group n count) nine))

pub no_look : (groups : ℕ) (re : Re) (text : List ℕ) → find re text 0 ≡ None → None ≡ looked groups re text
unfolding looked
no_look groups re text none = rw none refl

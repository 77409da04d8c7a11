-- One more pair of a list, and the attribute's values up to it.
use Rattle.std.proofs.Common.{◌≡◌, ℕ, zero, suc, ◌+◌, List, [], ◌∷◌, ◌++◌, take, refl, ap, ◌∙◌, add-one, map}
use Rattle.std.specs.Prelude.{slice_get}
use Rattle.std.specs.Option.{option_to_list}
use Rattle.std.proofs.lemmas.List.Elements.{filter-append}
use Rattle.std.proofs.lemmas.List.{map-append}
use Rattle.rad_words.specs.declared.attributes.AttrId.{AttrId}
use Rattle.rad_value.specs.declared.values.Pair.{Pair}
use Rattle.rad_value.specs.Pairs.{is_of, pairs_of, values_of}

taken : {A : Type 0} → (xs : List A) (n : ℕ) → take (suc n) xs ≡ take n xs ++ option_to_list (slice_get xs n)
taken [] zero = refl
taken [] (suc n) = refl
taken (x ∷ xs) zero = refl
taken (x ∷ xs) (suc n) = ap (λ more. x ∷ more) (taken xs n)

joined_values : (attr : AttrId) (xs ys : List Pair) → values_of attr (xs ++ ys) ≡ values_of attr xs ++ values_of attr ys
joined_values attr xs ys =
    ap (map (λ (p : Pair). p.value)) (filter-append (is_of attr) xs ys) ∙ map-append (λ (p : Pair). p.value) (pairs_of attr xs) (pairs_of attr ys)

pub one_more : (attr : AttrId) (xs : List Pair) (n : ℕ) → values_of attr (take (n + 1) xs) ≡ values_of attr (take n xs) ++ values_of attr (option_to_list (slice_get xs n))
one_more attr xs n = rw add-one (ap (values_of attr) (taken xs n) ∙ joined_values attr (take n xs) (option_to_list (slice_get xs n)))

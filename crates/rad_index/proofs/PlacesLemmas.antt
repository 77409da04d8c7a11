-- The places of keys, as a list of keys grows.
use Rattle.std.proofs.Common.{◌≡◌, ℕ, suc, ◌+◌, Bool, true, false, cond, eqb, List, [], ◌∷◌, ◌++◌, length, refl, sym, ap, subst, ◌∙◌, eq-eqb, arith}
use Rattle.std.proofs.lemmas.Bool.{eqb-true}
use Rattle.std.proofs.lemmas.List.{append-nil}
use Rattle.rad_index.specs.Places.{places_from, places_of}

-- the place at the end, where the key stands there
abbrev last_place : ℕ → ℕ → ℕ → List ℕ
last_place key place one = cond (eqb one key) (place ∷ []) []

by_test : (b : Bool) (place : ℕ) (longer shorter more : List ℕ) → longer ≡ shorter ++ more → cond b (place ∷ longer) longer ≡ cond b (place ∷ shorter) shorter ++ more
by_test true place longer shorter more e = ap (λ xs. place ∷ xs) e
by_test false place longer shorter more e = e

places_from-push : (key place one : ℕ) (keys : List ℕ) → places_from place key (keys ++ one ∷ []) ≡ places_from place key keys ++ last_place key (place + length keys) one
places_from-push key place one [] = ap (λ at. last_place key at one) (omega arith)
places_from-push key place one (k ∷ keys) =
    by_test (eqb k key) place (places_from (suc place) key (keys ++ one ∷ [])) (places_from (suc place) key keys) (last_place key (place + suc (length keys)) one)
    (places_from-push key (suc place) one keys ∙ ap (λ at. places_from (suc place) key keys ++ last_place key at one) (omega arith))

same_key : (key : ℕ) → eqb key key ≡ true
same_key key = eq-eqb key key refl

places_of-push_same : (key : ℕ) (keys : List ℕ) → places_of key (keys ++ key ∷ []) ≡ places_of key keys ++ length keys ∷ []
unfolding places_of
places_of-push_same key keys =
    places_from-push key 0 key keys ∙ ap (λ b. places_from 0 key keys ++ cond b ((0 + length keys) ∷ []) []) (same_key key) ∙ ap (λ at. places_from 0 key keys ++ at ∷ []) (omega arith)

places_of-push_other : (key one : ℕ) (keys : List ℕ) → eqb one key ≡ false → places_of key (keys ++ one ∷ []) ≡ places_of key keys
unfolding places_of
places_of-push_other key one keys apart =
    places_from-push key 0 one keys ∙ ap (λ b. places_from 0 key keys ++ cond b ((0 + length keys) ∷ []) []) apart ∙ append-nil (places_from 0 key keys)

-- One key more at the end: its place is added to those of the key, and no others change.
pub places_with : (old new : ℕ → List ℕ) (keys : List ℕ) (key : ℕ) → ((q : ℕ) → old q ≡ places_of q keys) → new key ≡ old key ++ length keys ∷ [] → ((q : ℕ) → eqb key q ≡ false → new q ≡ old q)
    → (q : ℕ) → new q ≡ places_of q (keys ++ key ∷ [])
places_with old new keys key before same others q = by_cases (eqb key q) refl where
  at_key : new key ≡ places_of key (keys ++ key ∷ [])
  at_key = same ∙ ap (λ xs. xs ++ length keys ∷ []) (before key) ∙ sym (places_of-push_same key keys)

  by_cases : (b : Bool) → eqb key q ≡ b → new q ≡ places_of q (keys ++ key ∷ [])
  by_cases true e = let same_one : key ≡ q = eqb-true key q e in subst (λ k. new k ≡ places_of k (keys ++ key ∷ [])) same_one at_key
  by_cases false e = others q e ∙ before q ∙ sym (places_of-push_other q key keys e)

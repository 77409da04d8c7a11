-- A search among the places of the wanted key is a search of all rows.
use Rattle.std.proofs.Common.{◌≡◌, ℕ, suc, ◌+◌, Bool, true, false, cond, eqb, List, [], ◌∷◌, map, Option, Some, refl, ap, ◌∙◌, eq-eqb, arith}
use Rattle.std.proofs.lemmas.Bool.{false≢true}
use Rattle.std.specs.List.{find, slice_get}
use Rattle.rad_index.specs.Places.{places_from, places_of}
use Rattle.rad_index.specs.Search.{found_at}

found_next : {T : Type 0} (test : T → Bool) (all : List T) (place : ℕ) (places : List ℕ) (row : T) → slice_get all place ≡ Some row
    → found_at test all (place ∷ places) ≡ cond (test row) (Some row) (found_at test all places)
found_next test all place places row e = rw (e, found_at) refl

by_key : {T : Type 0} (b test : Bool) (here passed : Option T) (row : T) (more : Option T) → (test ≡ true → b ≡ true) → here ≡ cond test (Some row) passed → passed ≡ more
    → cond b here passed ≡ cond test (Some row) more
by_key true test here passed row more only e f = rw (e, f) refl
by_key false true here passed row more only e f = absurd (false≢true (only refl))
by_key false false here passed row more only e f = f

split_test : {T : Type 0} (test : T → Bool) (all : List T) (b : Bool) (xs ys : List ℕ) → found_at test all (cond b xs ys) ≡ cond b (found_at test all xs) (found_at test all ys)
split_test test all true xs ys = refl
split_test test all false xs ys = refl

found_from : {T : Type 0} (test : T → Bool) (key : T → ℕ) (wanted : ℕ) (all : List T) → ((row : T) → test row ≡ true → key row ≡ wanted) → (place : ℕ) (rows : List T)
    → ((i : ℕ) → slice_get all (place + i) ≡ slice_get rows i) → found_at test all (places_from place wanted (map key rows)) ≡ find test rows
found_from test key wanted all only place [] at = refl
found_from test key wanted all only place (row ∷ rows) at =
    let later = places_from (suc place) wanted (map key rows) in
    let here : slice_get all place ≡ Some row = ap (slice_get all) (omega arith) ∙ at 0 in
    let more : found_at test all later ≡ find test rows = found_from test key wanted all only (suc place) rows (λ i. ap (slice_get all) (omega arith) ∙ at (suc i)) in
    split_test test all (eqb (key row) wanted) (place ∷ later) later
    ∙ by_key (eqb (key row) wanted) (test row) (found_at test all (place ∷ later)) (found_at test all later) row (find test rows) (λ e. eq-eqb (key row) wanted (only row e)) (found_next test all place later row here) more

pub found_all : {T : Type 0} (test : T → Bool) (key : T → ℕ) (wanted : ℕ) → ((row : T) → test row ≡ true → key row ≡ wanted) → (rows : List T)
    → found_at test rows (places_of wanted (map key rows)) ≡ find test rows
unfolding places_of
found_all test key wanted only rows = found_from test key wanted rows only 0 rows (λ i. ap (slice_get rows) (omega arith))

-- The same, of keys that are those of the rows, and of the places found among them.
pub looked_up : {T : Type 0} (test : T → Bool) (key : T → ℕ) (wanted : ℕ) → ((row : T) → test row ≡ true → key row ≡ wanted) → (rows : List T) (keys places : List ℕ)
    → places ≡ places_of wanted keys → keys ≡ map key rows → found_at test rows places ≡ find test rows
looked_up test key wanted only rows keys places at same =
    ap (found_at test rows) (at ∙ ap (places_of wanted) same) ∙ found_all test key wanted only rows

-- What a search finds is a row that fits, and where a row fits one is found.
use Rattle.std.proofs.Common.{◌≡◌, ℕ, zero, suc, ◌<◌, Bool, true, false, cond, List, [], ◌∷◌, length, Some, refl, sym, ap, ◌∙◌, arith}
use Rattle.std.specs.Prelude.{slice_index_or}
use Rattle.std.specs.List.{Contains, find}
use Rattle.std.proofs.lemmas.Bool.{true≢false}

found_here : {X : Type 0} (p : X → Bool) (y x : X) (ys : List X) → (b : Bool) → p y ≡ b → cond b (Some y) (find p ys) ≡ Some x → (find p ys ≡ Some x → Contains ys x × (p x ≡ true)) → Contains (y ∷ ys) x × (p x ≡ true)
found_here p y x ys true is e later = let same : y ≡ x = cc in ((0, omega arith, same), ap p (sym same) ∙ is)
found_here p y x ys false is e later = let r = later e in ((suc r.0.0, omega (arith, r.0.1), r.0.2), r.1)

pub find_fits : {X : Type 0} (p : X → Bool) (xs : List X) (x : X) → find p xs ≡ Some x → Contains xs x × (p x ≡ true)
find_fits p [] x e = absurd cc
find_fits p (y ∷ ys) x e = found_here p y x ys (p y) refl e (find_fits p ys x)

finds_here : {X : Type 0} (p : X → Bool) (y : X) (ys : List X) → (b : Bool) → (b ≡ false → (x : X) × (find p ys ≡ Some x)) → (x : X) × (cond b (Some y) (find p ys) ≡ Some x)
finds_here p y ys true later = (y, refl)
finds_here p y ys false later = later refl

find_at : {X : Type 0} (p : X → Bool) (y x : X) (ys : List X) → ((k : ℕ) → k < length ys → slice_index_or ys k x ≡ x → (z : X) × (find p ys ≡ Some z)) → p x ≡ true
    → (k : ℕ) → k < length (y ∷ ys) → slice_index_or (y ∷ ys) k x ≡ x → (z : X) × (find p (y ∷ ys) ≡ Some z)
find_at p y x ys later fits zero lt is = finds_here p y ys (p y) (λ e. absurd (true≢false (sym fits ∙ ap p (sym is) ∙ e)))
find_at p y x ys later fits (suc k) lt is = finds_here p y ys (p y) (λ e. later k (omega arith) is)

pub find_finds : {X : Type 0} (p : X → Bool) (xs : List X) (x : X) → Contains xs x → p x ≡ true → (y : X) × (find p xs ≡ Some y)
find_finds p [] x here fits = absurd (omega (arith, here.1))
find_finds p (y ∷ ys) x here fits = find_at p y x ys (λ k lt is. find_finds p ys x (k, lt, is) fits) fits here.0 here.1 here.2

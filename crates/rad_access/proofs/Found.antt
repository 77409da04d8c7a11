-- What is found in a list of which something holds.
use Rattle.std.specs.Prelude.{find}
use Rattle.std.specs.List.{AllByRecursion}
use Rattle.std.proofs.Common.{◌≡◌, Bool, true, false, cond, List, [], ◌∷◌, Option, Some, refl, subst}
use Rattle.std.proofs.lemmas.Option.{same_Some}

found_here : {X : Type 0} (P : X → Type 0) (p : X → Bool) (first : X) (xs : List X) (x : X) → P first → (find p xs ≡ Some x → P x × (p x ≡ true))
    → (b : Bool) → p first ≡ b → cond b (Some first) (find p xs) ≡ Some x → P x × (p x ≡ true)
found_here P p first xs x of_first more true here same = let is_first = same_Some first x same in (subst P is_first of_first, subst (λ y. p y ≡ true) is_first here)
found_here P p first xs x of_first more false here later = more later

pub found_one : {X : Type 0} (P : X → Type 0) (p : X → Bool) (xs : List X) (x : X) → AllByRecursion P xs → find p xs ≡ Some x → P x × (p x ≡ true)
found_one P p [] x all is = absurd (cc)
found_one P p (first ∷ xs) x all is = found_here P p first xs x all.0 (found_one P p xs x all.1) (p first) refl is

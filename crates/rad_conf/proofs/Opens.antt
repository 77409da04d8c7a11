-- The innermost of the open blocks stands last.
use Rattle.std.proofs.Common.{◌≡◌, List, [], ◌∷◌, ◌++◌, reverse}
use Rattle.std.proofs.lemmas.List.{reverse-append, reverse-reverse}

pub reverse_push : {A : Type 0} (xs : List A) (x : A) → reverse (xs ++ x ∷ []) ≡ x ∷ reverse xs
reverse_push xs x = reverse-append xs (x ∷ [])

pub turned : {A : Type 0} (xs : List A) → reverse (reverse xs) ≡ xs
turned xs = reverse-reverse xs

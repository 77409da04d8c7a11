-- What stands in blocks of a kind, one node more at a time.
use Rattle.std.proofs.Common.{◌≡◌, ℕ, ◌+◌, ◌<◌, List, [], ◌∷◌, ◌++◌, length, get_or, take, map, refl, sym, ap, ◌∙◌, append_assoc}
use Rattle.std.proofs.lemmas.List.{append-nil, map-append, take_more}
use Rattle.rad_conf.specs.declared.tree.Node.{Node}
use Rattle.rad_conf.specs.Variables.{body_of_kind, within}

within_append : (kind : List ℕ) (xs ys : List Node) → within kind (xs ++ ys) ≡ within kind xs ++ within kind ys
unfolding within
within_append kind [] ys = refl
within_append kind (x ∷ xs) ys = ap (λ (rest : List Node). body_of_kind kind x ++ rest) (within_append kind xs ys) ∙ sym (append_assoc (body_of_kind kind x) (within kind xs) (within kind ys))

within_one : (kind : List ℕ) (x : Node) → within kind (x ∷ []) ≡ body_of_kind kind x
unfolding within
within_one kind x = append-nil (body_of_kind kind x)

pub within_more : {A : Type 0} (f : A → Node) (kind : List ℕ) (xs : List A) (i : ℕ) (x : A) → i < length xs → x ≡ get_or xs i x
    → within kind (map f (take (i + 1) xs)) ≡ within kind (map f (take i xs)) ++ body_of_kind kind (f x)
within_more {A = A} f kind xs i x in_range is =
    ap (λ (front : List A). within kind (map f front)) (take_more xs i x in_range)
    ∙ ap (within kind) (map-append f (take i xs) (get_or xs i x ∷ []))
    ∙ within_append kind (map f (take i xs)) (f (get_or xs i x) ∷ [])
    ∙ ap (λ (back : List Node). within kind (map f (take i xs)) ++ back) (within_one kind (f (get_or xs i x)) ∙ ap (λ (y : A). body_of_kind kind (f y)) (sym is))

-- Texts of one length that differ nowhere are the same.
use Rattle.std.specs.Prelude.{filter, zip, not}
use Rattle.std.specs.Str.{bytes_eq}
use Rattle.std.proofs.Common.{◌≡◌, ℕ, Bool, true, false, cond, ◌&&◌, ◌==◌, List, [], ◌∷◌, length, zero, suc, refl, sym, ap, subst, ◌∙◌}
use Rattle.std.proofs.Math.Dec.{eqb-suc-zero, eqb-zero-suc, eqb-suc-suc}
use Rattle.mod_auth.specs.Differences.{is_difference, differences}

never : (b : Bool) → (b && false) ≡ false
never true = refl
never false = refl

same_where_none_differs : (one other : List ℕ) → (length one == length other && differences one other == 0) ≡ bytes_eq one other
same_where_none_differs [] [] = refl
same_where_none_differs [] (y ∷ other) = ap (λ b. b && true) (eqb-zero-suc (length other))
same_where_none_differs (x ∷ one) [] = ap (λ b. b && true) (eqb-suc-zero (length one))
same_where_none_differs (x ∷ one) (y ∷ other) =
    let rest = filter is_difference (zip one other) in
    ap (λ b. b && length (cond (not (x == y)) ((x, y) ∷ rest) rest) == 0) (eqb-suc-suc (length one) (length other))
    ∙ (elim (x == y) as (λ same. (length one == length other && length (cond (not same) ((x, y) ∷ rest) rest) == 0) ≡ (same && bytes_eq one other)) [
      | true ↦ same_where_none_differs one other
      | false ↦ ap (λ b. length one == length other && b) (eqb-suc-zero (length rest)) ∙ never (length one == length other)
    ])

itself : (n : ℕ) → (n == n) ≡ true
itself zero = refl
itself (suc n) = eqb-suc-suc n n ∙ itself n

pub same_of_one_length : (one other : List ℕ) → length one ≡ length other → (differences one other == 0) ≡ bytes_eq one other
same_of_one_length one other long =
    ap (λ b. b && differences one other == 0) (sym (subst (λ n. (length one == n) ≡ true) long (itself (length one)))) ∙ same_where_none_differs one other

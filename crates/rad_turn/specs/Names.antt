-- The names of seats. The first seat has the name 0, and the others have positive names, which the first seat keeps in rising order.
use Rattle.std.specs.Prelude.{◌≡◌, ℕ, ◌+◌, ◌<◌, ◌==◌, nat_lt, Bool, true, false, not, ◌&&◌, ◌||◌, List, [], ◌∷◌, filter, if◌then◌else◌}

-- whether a name is among those out
abbrev pub is_out : ℕ → List ℕ → Bool
is_out name [] = false
is_out name (x ∷ xs) = (x == name) || is_out name xs

-- the names rise, from above `low` on
abbrev pub is_rising : ℕ → List ℕ → Bool
is_rising low [] = true
is_rising low (x ∷ xs) = nat_lt low x && is_rising x xs

-- of names that rise, the first one from `name` on that isn't among them
abbrev pub free_from : ℕ → List ℕ → ℕ
free_from name [] = name
free_from name (x ∷ xs) = free_from (if x == name then name + 1 else name) xs

-- the least positive name that isn't out
abbrev pub least_free : List ℕ → ℕ
least_free out = free_from 1 out

-- the names with one more, in its place
abbrev pub with_name : ℕ → List ℕ → List ℕ
with_name name [] = name ∷ []
with_name name (x ∷ xs) = if nat_lt name x then name ∷ x ∷ xs else x ∷ with_name name xs

-- the names without one
abbrev pub without_name : ℕ → List ℕ → List ℕ
without_name name out = filter (λ x. not (x == name)) out

-- the name is positive and isn't out, and every lesser positive one is
pub record IsLeastFree (name : ℕ) (out : List ℕ) : Type 0 where
  pub positive : 0 < name
  pub free : is_out name out ≡ false
  pub least : (k : ℕ) → 0 < k → k < name → is_out k out ≡ true

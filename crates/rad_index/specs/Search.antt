-- A search among the rows at some places. This project's own.
use Rattle.std.specs.Prelude.{ℕ, Bool, List, [], ◌∷◌, Option, Some, None, if◌then◌else◌}
use Rattle.std.specs.List.{slice_get}

-- The first of the rows at these places for which the test is true.
abbrev pub found_at : {T : Type 0} → (T → Bool) → List T → List ℕ → Option T
found_at test rows [] = None
found_at test rows (place ∷ places) = elim (slice_get rows place) [
  | None ↦ found_at test rows places
  | Some row ↦ if test row then Some row else found_at test rows places
]

-- A text as a list of parts, each read where the one before it ends. The first part that can't be read is the last of
-- the list, as what is wrong with it, so that it falls into order with what a reader finds wrong of its own. This
-- project's own.
use Rattle.std.specs.Prelude.{ℕ, zero, suc, List, [], ◌∷◌, length, Result, Ok, Err}

-- The parts of a text, in as many turns as are given. A reader of parts takes an octet at least, so that as many turns
-- as the text has octets are enough; where they ran out the text would be stuck, and nothing would be lost unsaid.
unfoldable pub parts_in : {A F : Type 0} → (List ℕ → Result (A × List ℕ) F) → F → ℕ → List ℕ → List (Result A F)
parts_in part stuck turns [] = []
parts_in part stuck zero (c ∷ rest) = Err stuck ∷ []
parts_in part stuck (suc turns) (c ∷ rest) = elim (part (c ∷ rest)) [
  | Ok read ↦ Ok read.0 ∷ parts_in part stuck turns read.1
  | Err fault ↦ Err fault ∷ []
]

-- The parts of a whole text.
abbrev pub parts_of : {A F : Type 0} → (List ℕ → Result (A × List ℕ) F) → F → List ℕ → List (Result A F)
parts_of part stuck text = parts_in part stuck (length text) text

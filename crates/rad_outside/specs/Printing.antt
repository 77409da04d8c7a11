-- What printing lines leaves in a sink, whatever happens to it on the way. This project's own.
use Rattle.std.specs.Prelude.{ℕ, ◌≡◌, ◌⊎◌, ◌++◌, List, []}

-- A front of these lines was printed, and all of them unless this excuses it.
pub record Prints (lines : List ℕ) (excuse : Type 0) (before now : List ℕ) : Type 0 where
  pub printed : List ℕ
  pub rest : List ℕ
  pub grows : now ≡ before ++ printed
  pub front : lines ≡ printed ++ rest
  pub whole : (rest ≡ []) ⊎ excuse

-- These lines were printed, whole.
abbrev pub PrintsWhole : List ℕ → List ℕ → List ℕ → Type 0
PrintsWhole lines before now = now ≡ before ++ lines

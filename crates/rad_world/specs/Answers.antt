-- Answers of devices as they are kept, beside the room for more. This project's own.
use Rattle.std.specs.Prelude.{ℕ, Bool, List}

-- The answers given so far, true for each call that was done, and for how many more there is room.
pub record Kept : Type 0 where
  pub given : List Bool
  pub room : ℕ

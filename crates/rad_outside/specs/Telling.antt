-- What a device tells of itself, and its count of faults. This project's own.
use Rattle.std.specs.Prelude.{ℕ, ◌+◌, ◌-◌, ◌^◌, ◌≤◌, min, Option, Some, None}

-- If the device tells afterwards, it told before, and R holds of what it told then and tells now.
-- So a device that told nothing, or has stopped telling, tells nothing from then on.
abbrev pub Tells : {T : Type 0} → Option T → Option T → (T → T → Type 0) → Type 0
Tells before None R = Unit {0}
Tells None (Some now) R = ⊥
Tells (Some before) (Some now) R = R before now

-- The number rose, or stands at the end of its 64 bits.
abbrev pub Rose : ℕ → ℕ → Type 0
Rose before now = min (before + 1) (2 ^ 64 - 1) ≤ now

-- A count of faults never falls, and it rose where the call failed.
pub record Counts (before now : ℕ) (failed : Type 0) : Type 0 where
  pub later : before ≤ now
  pub cause : failed → Rose before now

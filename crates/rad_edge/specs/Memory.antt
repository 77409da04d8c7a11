-- What the forms in memory have in common. This project's own.
use Rattle.std.specs.Prelude.{ℕ, ◌+◌, ◌-◌, ◌^◌, min, Bool, true, false, Option, Some, None, Result, Ok, Err}
use Rattle.rad_outside.specs.declared.fault.Failed.{Failed}

-- What a form tells while its record is whole. From the first want of memory on it tells nothing.
abbrev pub told_while : {T : Type 0} → Bool → T → Option T
told_while true told = Some told
told_while false told = None

-- The number, one higher up to the end of its 64 bits.
abbrev pub risen : ℕ → ℕ
risen count = min (count + 1) (2 ^ 64 - 1)

-- The count of faults after a call: a failure raises it, and nothing else does.
abbrev pub faults_after : Result (Unit {0}) Failed → ℕ → ℕ
faults_after (Ok _) count = count
faults_after (Err _) count = risen count

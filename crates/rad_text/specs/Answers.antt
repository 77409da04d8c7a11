-- Answers of public calls, beside what is said of their texts: a value, or a fault. Some faults say nothing of a text,
-- such as want of memory; a reader names those that do. This project's own.
use Rattle.std.specs.Prelude.{◌≡◌, Bool, true, false, Result, Ok, Err}

-- A fault that says something of a text is the one that is said.
abbrev pub IsFaultIf : {A F : Type 0} → Bool → Result A F → F → Type 0
IsFaultIf true said fault = said ≡ Err fault
IsFaultIf false said fault = Unit {0}

-- The fault is the one that is said, where it says anything of the text.
abbrev pub IsFault : {A F : Type 0} → (F → Bool) → Result A F → F → Type 0
IsFault says said fault = IsFaultIf (says fault) said fault

-- The answer is the value or the fault that is said.
abbrev pub IsAnswer : {A F : Type 0} → (F → Bool) → Result A F → Result A F → Type 0
IsAnswer says said (Ok value) = said ≡ Ok value
IsAnswer says said (Err fault) = IsFault says said fault

-- A step leaves what is said as it was, or answers the fault that was said.
abbrev pub Continues : {A X F : Type 0} → (F → Bool) → Result A F → Result A F → Result X F → Type 0
Continues says before after (Ok done) = after ≡ before
Continues says before after (Err fault) = IsFault says before fault

-- What a world is at a moment, and what its calls do to it. This project's own.
use Rattle.std.specs.Prelude.{ℕ, ◌≡◌, ◌+◌, ◌-◌, ◌^◌, ◌≤◌, min, Bool, true, false, List, [], ◌∷◌, ◌++◌, Option, Result, Ok, Err}
use Rattle.rad_outside.specs.Telling.{Tells}
use Rattle.rad_sessions.specs.declared.session.Session.{Session}
use Rattle.rad_sessions.specs.declared.change.Change.{Change}
use Rattle.rad_sessions.specs.Listed.{is_too_many, limit}
use Rattle.rad_world.specs.declared.fault.AppendFault.{AppendFault}
use Rattle.rad_world.specs.declared.fault.AppendFault.TheVariants as append_fault
use Rattle.rad_world.specs.declared.fault.ChangeFault.{ChangeFault}
use Rattle.rad_world.specs.declared.fault.ChangeFault.TheVariants as change_fault
use Rattle.rad_world.specs.Effects.{Effect, Write, Line, answers_of, after_effects, writes_of, lines_of, failures_in}

-- The answers that the devices gave so far, the effects made so far, where the devices tell them, the sessions now, whether
-- they take changes, how often the files and the log have failed, and the name of the borrow of a device that was lent to
-- the world, 0 where none was.
pub record WorldState : Type 0 where
  pub answers : List Bool
  pub effects : Option (List Effect)
  pub sessions : List Session
  pub takes_changes : Bool
  pub write_faults : ℕ
  pub line_faults : ℕ
  pub lent : ℕ

-- A count of faults over a device's answers: it never falls, it rose with each failure, up to the end of its 64 bits, and
-- it stands where the device wasn't called.
pub record CountsOver (answers : List Bool) (before now : ℕ) : Type 0 where
  pub later : before ≤ now
  pub cause : min (before + failures_in answers) (2 ^ 64 - 1) ≤ now
  pub idle : answers ≡ [] → now ≡ before

-- A world has made these effects: each has its answer, they stand behind those that were told before, the sessions are
-- those after their changes, the counts of faults are those over their answers, and its devices are the same.
pub record Gains (before now : WorldState) (added : List Effect) : Type 0 where
  pub answers : now.answers ≡ before.answers ++ answers_of added
  pub effects : Tells before.effects now.effects (λ earlier later. later ≡ earlier ++ added)
  pub sessions : now.sessions ≡ after_effects before.sessions added
  pub takes_changes : now.takes_changes ≡ before.takes_changes
  pub write_faults : CountsOver (writes_of added) before.write_faults now.write_faults
  pub line_faults : CountsOver (lines_of added) before.line_faults now.line_faults
  pub lent : now.lent ≡ before.lent

-- What an append does: it was done, or it failed, or for want of memory nothing was handed to a device.
abbrev pub Appends : WorldState → WorldState → List ℕ → List ℕ → Result (Unit {0}) AppendFault → Type 0
Appends before now path octets (Ok done) = Gains before now (Write path octets true ∷ [])
Appends before now path octets (Err append_fault.Failed) = Gains before now (Write path octets false ∷ [])
Appends before now path octets (Err append_fault.NoMemory) = now ≡ before

-- What a change of the sessions does: it was done, or its line failed, or it would add a session to as many as may stand
-- and nothing was handed to a device, nor was it for want of memory.
abbrev pub Changes : WorldState → WorldState → Change → Result (Unit {0}) ChangeFault → Type 0
Changes before now change (Ok done) = (is_too_many before.sessions change ≡ false) × Gains before now (Line change true ∷ [])
Changes before now change (Err change_fault.Failed) = (is_too_many before.sessions change ≡ false) × Gains before now (Line change false ∷ [])
Changes before now change (Err (change_fault.Full count)) = (is_too_many before.sessions change ≡ true) × (count ≡ limit) × (now ≡ before)
Changes before now change (Err change_fault.NoMemory) = now ≡ before

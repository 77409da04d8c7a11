-- Lines that couldn't be printed whole. This project's own.
use Rattle.std.specs.Prelude.{ℕ, ◌≡◌, ◌⊎◌, List, Option}
use Rattle.rad_outside.specs.Telling.{Tells, Rose}
use Rattle.rad_outside.specs.Printing.{Prints}
use Rattle.radiusd.specs.declared.status.Status.{Status}
use Rattle.radiusd.specs.declared.status.Status.TheVariants as status

-- The lines couldn't be printed whole: the sink failed, or there was no memory to make them.
pub record IsCutShort (lines : List ℕ) (told_before told_now : Option (List ℕ)) (faults_before faults_now : ℕ) (ended : Status) : Type 0 where
  pub cause : ((ended ≡ status.PrintFault) × Rose faults_before faults_now) ⊎ (ended ≡ status.NoMemory)
  pub printed : Tells told_before told_now (Prints lines (Rose faults_before faults_now ⊎ (ended ≡ status.NoMemory)))

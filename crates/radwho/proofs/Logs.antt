-- The log that a read finds, and runs that have read it.
use Rattle.std.proofs.Common.{◌≡◌, ℕ, Bool, true, false, List, [], Option, Some, None, refl, sym, ap, ◌∙◌}
use Rattle.std.specs.Prelude.{unwrap_or}
use Rattle.std.specs.Str.{IsUtf8, is_utf8}
use Rattle.std.proofs.lemmas.Bool.{cond-true, cond-false}
use Rattle.std.proofs.lemmas.Str.{IsUtf8-from_is_utf8, is_utf8-from_IsUtf8}
use Rattle.rad_outside.specs.declared.files.Found.{Found}
use Rattle.rad_outside.specs.declared.files.Found.TheVariants as found
use Rattle.rad_outside.specs.Files.{File, octets_at, IsReading}
use Rattle.radwho.specs.declared.status.Status.{Status}
use Rattle.radwho.specs.declared.status.Status.TheVariants as status
use Rattle.radwho.specs.declared.wanted.Wanted.{Wanted}
use Rattle.radwho.specs.Run.{log_at, IsLog, ShowsLog, Shows, Refuses, Runs, log_lines}
use Rattle.rad_outside.proofs.Tellings.{Tells-same}
use Rattle.rad_outside.proofs.Printings.{Prints-nothing}

at_text : (path : List ℕ) (files : List File) (there : Option (List ℕ)) → IsUtf8 path → octets_at path files ≡ there → log_at path files ≡ unwrap_or there []
at_text path files there good same = cond-true _ _ _ (is_utf8-from_IsUtf8 path good) ∙ ap (λ (o : Option (List ℕ)). unwrap_or o []) same

-- What was read at a path that is a text is the log there.
pub log_read : (files : List File) (path given : List ℕ) (result : Found) → given ≡ path → IsUtf8 path → IsReading files given result → IsLog files path result
log_read files path given (found.Bytes octets) same good reading = at_text path files (Some octets) good (ap (λ (p : List ℕ). octets_at p files) (sym same) ∙ reading)
log_read files path given found.Missing same good reading = at_text path files None good (ap (λ (p : List ℕ). octets_at p files) (sym same) ∙ reading)
log_read files path given found.Failed same good reading = tt
log_read files path given found.NoMemory same good reading = tt

-- A path that is no text has no log.
pub log_bad : (files : List File) (path : List ℕ) → ¬ (IsUtf8 path) → log_at path files ≡ []
log_bad files path bad = cond-false _ _ _ (is_bad (is_utf8 path) refl) where
  is_bad : (b : Bool) → is_utf8 path ≡ b → is_utf8 path ≡ false
  is_bad true e = absurd (bad (IsUtf8-from_is_utf8 path e))
  is_bad false e = e

-- A run that has read the log shows it.
pub shows : (wanted : Wanted) (log other : List ℕ) (read_rose print_rose : Type 0) (a b : Option (List ℕ)) (ended : Status) → other ≡ log → ShowsLog wanted log print_rose a b ended → Shows wanted other read_rose print_rose a b ended
shows wanted log other read_rose print_rose a b status.Done same run = rw same run
shows wanted log other read_rose print_rose a b status.Words same run = absurd run.cause
shows wanted log other read_rose print_rose a b status.ReadFault same run = absurd run.cause
shows wanted log other read_rose print_rose a b status.TooLong same run = rw same run
shows wanted log other read_rose print_rose a b status.PrintFault same run = rw same run
shows wanted log other read_rose print_rose a b status.NoMemory same run = rw same run

-- Want of memory, before anything was printed.
pub shows_nothing : (wanted : Wanted) (log : List ℕ) (print_rose : Type 0) (told : Option (List ℕ)) → ShowsLog wanted log print_rose told told status.NoMemory
shows_nothing wanted log print_rose told = record { cause = tt; printed = Prints-nothing told (log_lines wanted log) (Unit {0}) tt }

pub runs_nothing : (asked : Option Wanted) (files : List File) (read_rose print_rose : Type 0) (told : Option (List ℕ)) → Runs asked files read_rose print_rose told told status.NoMemory
runs_nothing None files read_rose print_rose told = Tells-same (λ (before now : List ℕ). now ≡ before) told (λ x. refl)
runs_nothing (Some wanted) files read_rose print_rose told = shows_nothing wanted (log_at wanted.path files) print_rose told

-- Runs by what the words ask for.
pub runs_asked : (asked : Option Wanted) (wanted : Wanted) (files : List File) (read_rose print_rose : Type 0) (a b : Option (List ℕ)) (ended : Status) → Some wanted ≡ asked
    → Shows wanted (log_at wanted.path files) read_rose print_rose a b ended → Runs asked files read_rose print_rose a b ended
runs_asked asked wanted files read_rose print_rose a b ended same run = rw (sym same) run

pub runs_refused : (asked : Option Wanted) (files : List File) (read_rose print_rose : Type 0) (a b : Option (List ℕ)) (ended : Status) → None ≡ asked
    → Refuses print_rose a b ended → Runs asked files read_rose print_rose a b ended
runs_refused asked files read_rose print_rose a b ended same run = rw (sym same) run

pub refuses_nothing : (print_rose : Type 0) (told : Option (List ℕ)) → Refuses print_rose told told status.NoMemory
refuses_nothing print_rose told = Tells-same (λ (before now : List ℕ). now ≡ before) told (λ x. refl)

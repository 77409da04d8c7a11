-- What a run's exit status says of its words and of its site. This project's own, after FreeRADIUS' radiusd(8).
use Rattle.std.specs.Prelude.{ℕ, ◌≡◌, ◌⊎◌, List, Option, Some, Ok, Err}
use Rattle.rad_outside.specs.declared.crew.Kit.{Kit}
use Rattle.rad_outside.specs.Telling.{Tells, Rose}
use Rattle.rad_outside.specs.Files.{FilesTold, begun}
use Rattle.rad_core.specs.declared.entry.Entry.{Entry}
use Rattle.rad_build.specs.declared.fault.BuildFault.{BuildFault}
use Rattle.rad_build.specs.declared.fault.BuildFault.TheVariants as fault
use Rattle.radiusd.specs.declared.status.Status.{Status}
use Rattle.radiusd.specs.declared.status.Status.TheVariants as status
use Rattle.rad_site.specs.Built.{built}
use Rattle.radiusd.specs.Course.{fault_line, HasDeafWire}
use Rattle.rad_serve.specs.History.{IsFull}
use Rattle.radiusd.specs.Loading.{TriesInstall}
use Rattle.radiusd.specs.Lines.{checked_line}
use Rattle.rad_outside.specs.Printing.{Prints, PrintsWhole}
use Rattle.rad_site.specs.Site.{Site}
use Rattle.radiusd.specs.declared.order.Task.TheVariants.{Check}
use Rattle.radiusd.specs.Words.{order_in, folder_in}

-- A fault of the site's own text, neither a read fault nor want of memory.
abbrev pub IsSiteFault : BuildFault → Type 0
IsSiteFault (fault.Conf wrong) = Unit {0}
IsSiteFault (fault.Dict wrong) = Unit {0}
IsSiteFault (fault.Users file wrong) = Unit {0}
IsSiteFault (fault.Tree wrong) = Unit {0}
IsSiteFault (fault.BadSetting place name) = Unit {0}
IsSiteFault (fault.UnknownModule place kind) = Unit {0}
IsSiteFault fault.ReadFault = ⊥
IsSiteFault fault.NoMemory = ⊥

-- The run was refused for a fault of its site: the words name a folder, the next map of the files is built there to
-- this fault, and the fault's line was printed. Nothing else was printed.
pub record IsRefused (words : List (List ℕ)) (files_before files_now : Option FilesTold) (printed_before printed_now : Option (List ℕ)) (faults_before faults_now : ℕ) : Type 0 where
  pub fault : BuildFault
  pub folder : List ℕ
  pub words_are : folder_in words ≡ Some folder
  pub site : IsSiteFault fault
  pub is_built : Tells files_before files_now (λ before now. built (record { files = (begun before).present; folder = folder }) ≡ Err fault)
  pub printed : Tells printed_before printed_now (Prints (fault_line fault) (Rose faults_before faults_now))

-- The site was checked and has no fault: the words order a check of a folder, the next map of the files is built there to a
-- site, and the line that says so was printed whole. Nothing else was printed.
pub record IsChecked (words : List (List ℕ)) (files_before files_now : Option FilesTold) (printed_before printed_now : Option (List ℕ)) : Type 0 where
  pub site : Site
  pub folder : List ℕ
  pub words_are : order_in words ≡ Some (record { task = Check; folder = folder })
  pub is_built : Tells files_before files_now (λ before now. built (record { files = (begun before).present; folder = folder }) ≡ Ok site)
  pub printed : Tells printed_before printed_now (PrintsWhole checked_line)

-- Where the words name a folder, and the next map of the files is built there to a fault, the run ends so.
abbrev pub FaultGives : List (List ℕ) → Type 0 → Option FilesTold → Option FilesTold → Type 0
FaultGives words Ends files_before files_now = Tells files_before files_now (λ before now.
    (folder : List ℕ) (wrong : BuildFault) → folder_in words ≡ Some folder
    → built (record { files = (begun before).present; folder = folder }) ≡ Err wrong → Ends)

-- The exit statuses that there are.
abbrev pub IsListed : ℕ → Type 0
IsListed number = (number ≡ 0) ⊎ ((number ≡ 1) ⊎ ((number ≡ 2) ⊎ ((number ≡ 3) ⊎ ((number ≡ 4) ⊎ ((number ≡ 6) ⊎ ((number ≡ 7) ⊎ (number ≡ 8)))))))

-- The generation isn't installed, for a status that says why: there was no memory, or the history is full.
pub record IsNotInstalled (before after : List (Entry Site BuildFault)) (generation : Site) (ended : Status) : Type 0 where
  pub tries : TriesInstall before after generation
  pub why : (ended ≡ status.NoMemory) ⊎ ((ended ≡ status.Worn) × IsFull after)

-- What a run's devices have had by its end: no count of faults rose, and no kit's wire failed 100 times in a row. The
-- history isn't full.
pub record NothingFailed {W S K U G : Type 0} (failures : W → ℕ) (files_before files_now crew_before crew_now sink_before sink_now : ℕ) (history : List (Entry Site BuildFault)) (kits : List (Kit W S K U G)) : Type 0 where
  pub turns : ¬ IsFull history
  pub files : ¬ Rose files_before files_now
  pub crew : ¬ Rose crew_before crew_now
  pub sink : ¬ Rose sink_before sink_now
  pub wires : ¬ HasDeafWire failures kits

-- What a run's devices have had by its end that checks its site: neither the files' count of faults rose nor the sink's.
pub record NothingFailedOfCheck (files_before files_now sink_before sink_now : ℕ) : Type 0 where
  pub files : ¬ Rose files_before files_now
  pub sink : ¬ Rose sink_before sink_now

-- Where the words name a folder, and the next map of the files is built there to a site, the run ends so if nothing
-- failed.
abbrev pub SiteGives : List (List ℕ) → Type 0 → Type 0 → Option FilesTold → Option FilesTold → Type 0
SiteGives words Fine Ends files_before files_now = Tells files_before files_now (λ before now.
    (folder : List ℕ) (site : Site) → folder_in words ≡ Some folder
    → built (record { files = (begun before).present; folder = folder }) ≡ Ok site → Fine → Ends)

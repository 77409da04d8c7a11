-- How far a run of the server came, and what it prints, adds and answers there. This project's own, after FreeRADIUS'
-- radiusd(8).
use Rattle.std.specs.Prelude.{ℕ, ◌≡◌, ◌⊎◌, ◌==◌, ◌≤◌, ◌++◌, List, [], ◌∷◌, length, map, Option, Some, None, Ok, Err, if◌then◌else◌}
use Rattle.rad_outside.specs.declared.crew.Kit.{Kit}
use Rattle.rad_outside.specs.declared.listen.Listen.{Listen}
use Rattle.rad_outside.specs.Crew.{Handed}
use Rattle.rad_outside.specs.Files.{FilesTold, begun}
use Rattle.rad_outside.specs.Telling.{Tells, Rose}
use Rattle.rad_core.specs.declared.installed.Installed.{Installed}
use Rattle.rad_core.specs.declared.entry.Entry.{Entry}
use Rattle.rad_core.specs.declared.entry.Entry.TheVariants.{Install}
use Rattle.rad_policy.specs.Policy.{IsBuilt}
use Rattle.rad_build.specs.declared.fault.BuildFault.{BuildFault}
use Rattle.rad_build.specs.declared.fault.BuildFault.TheVariants as fault
use Rattle.rad_site.specs.Built.{built}
use Rattle.rad_serve.specs.Counting.{counts_of}
use Rattle.rad_build.specs.FaultText.{fault_text}
use Rattle.radiusd.specs.Loading.{listener_of}
use Rattle.radiusd.specs.Lines.{listening_line, counts_line, socket_fault_line, worn_line, usage_line, checked_line}
use Rattle.rad_site.specs.Meaning.{site_meaning}
use Rattle.rad_site.specs.Site.{Site}
use Rattle.radiusd.specs.declared.order.Task.TheVariants.{Check, Serve}
use Rattle.radiusd.specs.ExitStatuses.{number_of, status_of}
use Rattle.radiusd.specs.Words.{order_in, folder_in}

-- There was no memory to read the words; the words are refused; the folder has no generation, for this fault; the generation
-- of this site was built, and that was all that was ordered; the generation of this site was to be served.
pub data Course : Type 0 where
  Unread : Course
  Misworded : Course
  Unbuilt : (wrong : BuildFault) → Course
  Checked : (site : Site) → Course
  Serving : (site : Site) → Course

-- Whether a run took this course is a matter of its words and of the next map of its files: the site is what that map
-- is built to in the words' folder, and so is a fault, or it is a read fault or want of memory. Whether the site is checked or
-- served is what the words order. The files have begun that map and no other; where the words are refused, or couldn't be
-- read, they are as they were.
abbrev pub IsCourse : List (List ℕ) → Option FilesTold → Option FilesTold → Course → Type 0
IsCourse words files_before files_now Unread = Tells files_before files_now (λ before now. now ≡ before)
IsCourse words files_before files_now Misworded = (order_in words ≡ None) × Tells files_before files_now (λ before now. now ≡ before)
IsCourse words files_before files_now (Unbuilt wrong) = (folder : List ℕ) × (folder_in words ≡ Some folder)
    × Tells files_before files_now (λ before now. (now ≡ begun before)
    × IsBuilt site_meaning (record { files = (begun before).present; folder = folder }) (Err wrong))
IsCourse words files_before files_now (Checked site) = (folder : List ℕ) × (order_in words ≡ Some (record { task = Check; folder = folder }))
    × Tells files_before files_now (λ before now. (now ≡ begun before)
    × (built (record { files = (begun before).present; folder = folder }) ≡ Ok site))
IsCourse words files_before files_now (Serving site) = (folder : List ℕ) × (order_in words ≡ Some (record { task = Serve; folder = folder }))
    × Tells files_before files_now (λ before now. (now ≡ begun before)
    × (built (record { files = (begun before).present; folder = folder }) ≡ Ok site))

-- The line of a fault: its text, with place and reason, and a newline. Want of memory has none.
abbrev pub fault_line : BuildFault → List ℕ
fault_line (fault.Conf wrong) = fault_text (fault.Conf wrong) ++ 10 ∷ []
fault_line (fault.Dict wrong) = fault_text (fault.Dict wrong) ++ 10 ∷ []
fault_line (fault.Users file wrong) = fault_text (fault.Users file wrong) ++ 10 ∷ []
fault_line (fault.Tree wrong) = fault_text (fault.Tree wrong) ++ 10 ∷ []
fault_line (fault.BadSetting place name) = fault_text (fault.BadSetting place name) ++ 10 ∷ []
fault_line (fault.UnknownModule place kind) = fault_text (fault.UnknownModule place kind) ++ 10 ∷ []
fault_line fault.ReadFault = fault_text fault.ReadFault ++ 10 ∷ []
fault_line fault.NoMemory = []

-- The line of a status that has one of its own: a socket couldn't be had or a worker was deaf, or the history was full.
abbrev pub status_line : ℕ → List ℕ
status_line status = if status == 4 then socket_fault_line else if status == 7 then worn_line else []

-- What a run prints at its end, once its workers ran: the counts, and the line of its status.
abbrev pub closing_lines : ℕ → List (Entry Site BuildFault) → List ℕ
closing_lines status added = counts_line (counts_of added) ++ status_line status

-- What a run prints that serves a site: the listening line and then the closing ones. Where there is no kit it is the
-- line of its status alone.
abbrev pub serving_lines : {H : Type 0} → Site → ℕ → List H → List (Entry Site BuildFault) → List ℕ
serving_lines site status [] added = status_line status
serving_lines site status (handed ∷ more) added = listening_line site.server site.at ++ closing_lines status added

-- The lines of a run, by its course, its exit status, the kits that were handed out and the entries that it added.
abbrev pub lines_of : {H : Type 0} → Course → ℕ → List H → List (Entry Site BuildFault) → List ℕ
lines_of Unread status handed added = []
lines_of Misworded status handed added = usage_line
lines_of (Unbuilt wrong) status handed added = fault_line wrong
lines_of (Checked site) status handed added = checked_line
lines_of (Serving site) status handed added = serving_lines site status handed added

-- What excuses a run that doesn't print all of its lines: the sink failed, or memory ran out.
abbrev pub IsExcused : ℕ → ℕ → ℕ → Type 0
IsExcused faults_before faults_now status = Rose faults_before faults_now ⊎ (status ≡ 8)

-- A call of the crew.
pub record Call : Type 0 where
  pub worker : ℕ
  pub listen : Listen
  pub control : Option Listen

-- The call of the crew that a kit was handed out by.
abbrev pub call_of : {W S K U G : Type 0} → Handed W S K U G → Call
call_of handed = record { worker = handed.worker; listen = handed.listen; control = handed.control }

-- The kits that a site is served with: one, for its one listener, of worker 0, without a control wire.
abbrev pub calls_of : Site → List Call
calls_of site = record { worker = 0; listen = listener_of site; control = None } ∷ []

-- The kits are those of the site, in order. Or there is none: then nothing but the install was added, and the status
-- isn't 0.
abbrev pub AreKitsOf : {W S K U G : Type 0} → Site → ℕ → List (Handed W S K U G) → List (Entry Site BuildFault) → Type 0
AreKitsOf site status handed added =
    (map call_of handed ≡ calls_of site)
    ⊎ ((handed ≡ []) × (length added ≤ 1) × ¬ (status ≡ 0))

-- The first entry that was added, if there is one, is the site's install for its own listener by worker 0.
abbrev pub BeginsWithInstall : Site → List (Entry Site BuildFault) → Type 0
BeginsWithInstall site [] = Unit {0}
BeginsWithInstall site (entry ∷ more) =
    (answer : Installed BuildFault) × (entry ≡ Install 0 (Ok site) (listener_of site ∷ []) answer)

-- The exit statuses of a run that serves no site: 1 where its words are refused; that of the fault, or want of memory, where the
-- folder has no generation; and where its site is checked 0, or 6 where that couldn't be printed. One that serves may end with
-- any that its other clauses allow.
abbrev pub EndsSo : Course → ℕ → Type 0
EndsSo Unread status = status ≡ 8
EndsSo Misworded status = status ≡ 1
EndsSo (Unbuilt wrong) status = (status ≡ number_of (status_of wrong)) ⊎ (status ≡ 8)
EndsSo (Checked site) status = (status ≡ 0) ⊎ (status ≡ 6)
EndsSo (Serving site) status = Unit {0}

-- What a run adds and which kits it takes, by its course: nothing and none where it serves no site. So one that checks its site
-- takes no request, loads nothing, opens no kit and starts no worker.
abbrev pub Takes : {W S K U G : Type 0} → Course → ℕ → List (Handed W S K U G) → List (Entry Site BuildFault) → Type 0
Takes Unread status handed added = EndsSo Unread status × (added ≡ []) × (handed ≡ [])
Takes Misworded status handed added = EndsSo Misworded status × (added ≡ []) × (handed ≡ [])
Takes (Unbuilt wrong) status handed added = EndsSo (Unbuilt wrong) status × (added ≡ []) × (handed ≡ [])
Takes (Checked site) status handed added = EndsSo (Checked site) status × (added ≡ []) × (handed ≡ [])
Takes (Serving site) status handed added = BeginsWithInstall site added × AreKitsOf site status handed added

-- One of these kits has a wire whose last 100 asks failed.
abbrev pub HasDeafWire : {W S K U G : Type 0} → (W → ℕ) → List (Kit W S K U G) → Type 0
HasDeafWire failures [] = ⊥
HasDeafWire failures (kit ∷ more) = (100 ≤ failures kit.wire) ⊎ HasDeafWire failures more

-- What a fault of a site says of the status that a run ends with.
use Rattle.std.proofs.Common.{ℕ, ◌≡◌, ◌⊎◌, List, Option, Some, None, Ok, Err, inl, inr, refl, ap, sym, ◌∙◌, subst}
use Rattle.std.specs.Option.{option_map}
use Rattle.rad_outside.specs.declared.crew.Kit.{Kit}
use Rattle.rad_outside.specs.Telling.{Tells, Rose}
use Rattle.rad_outside.specs.Files.{File, FilesTold, begun}
use Rattle.rad_policy.specs.Policy.{IsBuilt}
use Rattle.rad_core.specs.declared.entry.Entry.{Entry}
use Rattle.rad_build.specs.declared.fault.BuildFault.{BuildFault}
use Rattle.rad_build.specs.declared.fault.BuildFault.TheVariants as fault
use Rattle.radiusd.specs.declared.status.Status.{Status}
use Rattle.radiusd.specs.declared.status.Status.TheVariants as status
use Rattle.rad_site.specs.Site.{Site}
use Rattle.rad_site.specs.Built.{built}
use Rattle.rad_site.specs.Meaning.{site_meaning}
use Rattle.radiusd.specs.OrderSeen.{OrderSeen}
use Rattle.radiusd.specs.declared.order.Task.{Task}
use Rattle.radiusd.specs.declared.order.Task.TheVariants.{Check, Serve}
use Rattle.radiusd.specs.Words.{both, order_in, folder_in}
use Rattle.rad_outside.specs.Printing.{Prints}
use Rattle.radiusd.specs.Course.{IsCourse, Unbuilt, Checked, Serving, fault_line, HasDeafWire}
use Rattle.radiusd.specs.ExitStatuses.{number_of, status_of, IsServing}
use Rattle.radiusd.specs.Statuses.{IsSiteFault, IsRefused, FaultGives, SiteGives, NothingFailed, IsListed}
use Rattle.rad_serve.specs.History.{IsFull}
use Rattle.rad_outside.proofs.Tellings.{Tells-same, Tells-weaker}
use Rattle.rad_outside.proofs.Printings.{Prints-weaker}

-- the status of a fault of the configuration is that of a site's own fault alone
IsSiteFault-by_status : (wrong : BuildFault) → status_of wrong ≡ status.Configuration → IsSiteFault wrong
IsSiteFault-by_status (fault.Conf wrong) is = tt
IsSiteFault-by_status (fault.Dict wrong) is = tt
IsSiteFault-by_status (fault.Users file wrong) is = tt
IsSiteFault-by_status (fault.Tree wrong) is = tt
IsSiteFault-by_status (fault.BadSetting place name) is = tt
IsSiteFault-by_status (fault.UnknownModule place kind) is = tt
IsSiteFault-by_status fault.ReadFault is = cc
IsSiteFault-by_status fault.NoMemory is = cc

-- a build that answers a site's own fault is what the sources mean
built-by_site_fault : (folder : List ℕ) (wrong : BuildFault) (before now : FilesTold) → IsSiteFault wrong
    → (now ≡ begun before) × IsBuilt site_meaning (record { files = (begun before).present; folder = folder }) (Err wrong)
    → built (record { files = (begun before).present; folder = folder }) ≡ Err wrong
built-by_site_fault folder wrong before now site told = elim told.1 [
  | inl means ↦ means
  | inr (inl none) ↦ absurd (subst IsSiteFault none site)
  | inr (inr failed) ↦ absurd (subst IsSiteFault failed site)
]

-- a run that was refused for a fault, whose line was printed
pub IsRefused-by_fault : (words : List (List ℕ)) (folder : List ℕ) (wrong : BuildFault) (files_before files_now : Option FilesTold) (printed_before printed_now : Option (List ℕ)) (faults_before faults_now : ℕ) (ended : Status)
    → folder_in words ≡ Some folder
    → Tells files_before files_now (λ before now. (now ≡ begun before) × IsBuilt site_meaning (record { files = (begun before).present; folder = folder }) (Err wrong))
    → (ended ≡ status_of wrong) ⊎ (ended ≡ status.NoMemory)
    → Tells printed_before printed_now (Prints (fault_line wrong) (Rose faults_before faults_now ⊎ (ended ≡ status.NoMemory)))
    → ended ≡ status.Configuration
    → IsRefused words files_before files_now printed_before printed_now faults_before faults_now
IsRefused-by_fault words folder wrong files_before files_now printed_before printed_now faults_before faults_now ended words_are told which printed is =
    let site : IsSiteFault wrong = elim which [
      | inl of_fault ↦ IsSiteFault-by_status wrong (sym of_fault ∙ is)
      | inr none ↦ cc
    ] in
    record {
      fault = wrong;
      folder = folder;
      words_are = words_are;
      site = site;
      is_built = Tells-weaker (λ (before now : FilesTold). built (record { files = (begun before).present; folder = folder }) ≡ Err wrong) files_before files_now
          (λ (before now : FilesTold). built-by_site_fault folder wrong before now site) told;
      printed = Prints-weaker printed_before printed_now (fault_line wrong) (Rose faults_before faults_now ⊎ (ended ≡ status.NoMemory)) (Rose faults_before faults_now)
          (λ excuse. elim excuse [ inl rose ↦ rose | inr none ↦ cc ]) printed;
    }

-- the course of a site that has no generation, of one that is checked and of one that is served
pub unbuilt_course : (words : List (List ℕ)) (folder : List ℕ) (wrong : BuildFault) (files_before files_now : Option FilesTold)
    → folder_in words ≡ Some folder
    → Tells files_before files_now (λ before now. (now ≡ begun before) × IsBuilt site_meaning (record { files = (begun before).present; folder = folder }) (Err wrong))
    → IsCourse words files_before files_now (Unbuilt wrong)
unbuilt_course words folder wrong files_before files_now words_are told = (
  folder,
  words_are,
  told,
)

pub checked_course : (words : List (List ℕ)) (folder : List ℕ) (site : Site) (files_before files_now : Option FilesTold)
    → order_in words ≡ Some (record { task = Check; folder = folder })
    → Tells files_before files_now (λ before now. (now ≡ begun before) × IsBuilt site_meaning (record { files = (begun before).present; folder = folder }) (Ok site))
    → IsCourse words files_before files_now (Checked site)
checked_course words folder site files_before files_now words_are told = (
  folder,
  words_are,
  told,
)

pub serving_course : (words : List (List ℕ)) (folder : List ℕ) (site : Site) (files_before files_now : Option FilesTold)
    → order_in words ≡ Some (record { task = Serve; folder = folder })
    → Tells files_before files_now (λ before now. (now ≡ begun before) × IsBuilt site_meaning (record { files = (begun before).present; folder = folder }) (Ok site))
    → IsCourse words files_before files_now (Serving site)
serving_course words folder site files_before files_now words_are told = (
  folder,
  words_are,
  told,
)

-- words that order something order its task and its folder
pub ordered : (words : List (List ℕ)) (order : OrderSeen) (task : Task) (folder : List ℕ) → order_in words ≡ Some order → order.task ≡ task → order.folder ≡ folder
    → order_in words ≡ Some (record { task = task; folder = folder })
ordered words order task folder is task_is folder_is =
    is ∙ ap (λ (t : Task). both (Some t) (Some order.folder)) task_is ∙ ap (λ (f : List ℕ). both (Some task) (Some f)) folder_is

-- the folder that an order names
pub folder_of_order : (words : List (List ℕ)) (order : OrderSeen) → order_in words ≡ Some order → folder_in words ≡ Some order.folder
folder_of_order words order is = ap (option_map (λ (o : OrderSeen). o.folder)) is

-- a site is built to one thing
one_built : (words : List (List ℕ)) (folder other : List ℕ) (wrong : BuildFault) (site : Site) (files : List File) → folder_in words ≡ Some folder → folder_in words ≡ Some other
    → built (record { files = files; folder = folder }) ≡ Err wrong → built (record { files = files; folder = other }) ≡ Ok site → ⊥
one_built words folder other wrong site files words_are also fails works =
    let same : folder ≡ other = cc in
    let both : Err wrong ≡ Ok site = sym fails ∙ ap (λ (f : List ℕ). built (record { files = files; folder = f })) same ∙ works in
    cc

-- the end of a run whose words are others
pub SiteGives-by_words : (words : List (List ℕ)) (Fine Ends : Type 0) (files : Option FilesTold) → folder_in words ≡ None → SiteGives words Fine Ends files files
SiteGives-by_words words Fine Ends files none =
    Tells-same (λ (before now : FilesTold). (folder : List ℕ) (site : Site) → folder_in words ≡ Some folder → built (record { files = (begun before).present; folder = folder }) ≡ Ok site → Fine → Ends) files
    (λ told folder site words_are means fine. cc)

-- the end of a run whose site has no generation
pub SiteGives-by_fault : (words : List (List ℕ)) (folder : List ℕ) (wrong : BuildFault) (files_before files_now : Option FilesTold) (Fine : Type 0) (ended : Status)
    → folder_in words ≡ Some folder
    → Tells files_before files_now (λ before now. (now ≡ begun before) × IsBuilt site_meaning (record { files = (begun before).present; folder = folder }) (Err wrong))
    → (ended ≡ status_of wrong) ⊎ (ended ≡ status.NoMemory)
    → (wrong ≡ fault.ReadFault → ¬ Fine)
    → SiteGives words Fine ((ended ≡ status.Done) ⊎ (ended ≡ status.NoMemory)) files_before files_now
SiteGives-by_fault words folder wrong files_before files_now Fine ended words_are told which not_read =
    Tells-weaker (λ (before now : FilesTold). (other : List ℕ) (site : Site) → folder_in words ≡ Some other → built (record { files = (begun before).present; folder = other }) ≡ Ok site → Fine → (ended ≡ status.Done) ⊎ (ended ≡ status.NoMemory)) files_before files_now
    (λ (before now : FilesTold) t other site also means fine. elim t.1 [
      | inl fails ↦ absurd (one_built words folder other wrong site (begun before).present words_are also fails means)
      | inr (inl none) ↦ elim which [
        | inl of_fault ↦ inr (of_fault ∙ ap status_of none)
        | inr out ↦ inr out
      ]
      | inr (inr failed) ↦ absurd (not_read failed fine)
    ]) told

-- the end of a run that refused a fault
ends_refused : (wrong : BuildFault) (ended : Status) → (ended ≡ status_of wrong) ⊎ (ended ≡ status.NoMemory) → (ended ≡ status.Configuration) ⊎ ((ended ≡ status.ReadFault) ⊎ (ended ≡ status.NoMemory))
ends_refused wrong ended (inr out) = inr (inr out)
ends_refused (fault.Conf wrong) ended (inl is) = inl is
ends_refused (fault.Dict wrong) ended (inl is) = inl is
ends_refused (fault.Users file wrong) ended (inl is) = inl is
ends_refused (fault.Tree wrong) ended (inl is) = inl is
ends_refused (fault.BadSetting place name) ended (inl is) = inl is
ends_refused (fault.UnknownModule place kind) ended (inl is) = inl is
ends_refused fault.ReadFault ended (inl is) = inr (inl is)
ends_refused fault.NoMemory ended (inl is) = inr (inr is)

pub FaultGives-by_fault : (words : List (List ℕ)) (wrong : BuildFault) (files_before files_now : Option FilesTold) (R : FilesTold → FilesTold → Type 0) (ended : Status) → Tells files_before files_now R
    → (ended ≡ status_of wrong) ⊎ (ended ≡ status.NoMemory)
    → FaultGives words ((ended ≡ status.Configuration) ⊎ ((ended ≡ status.ReadFault) ⊎ (ended ≡ status.NoMemory))) files_before files_now
FaultGives-by_fault words wrong files_before files_now R ended told which =
    Tells-weaker (λ (before now : FilesTold). (folder : List ℕ) (other : BuildFault) → folder_in words ≡ Some folder → built (record { files = (begun before).present; folder = folder }) ≡ Err other
    → (ended ≡ status.Configuration) ⊎ ((ended ≡ status.ReadFault) ⊎ (ended ≡ status.NoMemory))) files_before files_now
    (λ (before now : FilesTold) t folder other words_are means. ends_refused wrong ended which) told

-- a run that served, where nothing failed
module _ {W S K U G : Type 0} (failures : W → ℕ) (files_before files_now crew_before crew_now sink_before sink_now : ℕ) (history : List (Entry Site BuildFault)) (kits : List (Kit W S K U G)) where
  pub serving_ends : (ended : Status) → IsServing ended
      → (ended ≡ status.SocketFault → Rose crew_before crew_now ⊎ HasDeafWire failures kits)
      → (ended ≡ status.PrintFault → Rose sink_before sink_now)
      → (ended ≡ status.Worn → IsFull history)
      → NothingFailed failures files_before files_now crew_before crew_now sink_before sink_now history kits
      → (ended ≡ status.Done) ⊎ (ended ≡ status.NoMemory)
  serving_ends status.Done serving socket print worn fine = inl refl
  serving_ends status.Words serving socket print worn fine = absurd serving
  serving_ends status.Configuration serving socket print worn fine = absurd serving
  serving_ends status.ReadFault serving socket print worn fine = absurd serving
  serving_ends status.SocketFault serving socket print worn fine = elim (socket refl) [ inl rose ↦ absurd (fine.crew rose) | inr deaf ↦ absurd (fine.wires deaf) ]
  serving_ends status.PrintFault serving socket print worn fine = absurd (fine.sink (print refl))
  serving_ends status.Worn serving socket print worn fine = absurd (fine.turns (worn refl))
  serving_ends status.NoMemory serving socket print worn fine = inr refl

-- the end of a run that served
pub SiteGives-serving : (words : List (List ℕ)) (Fine Ends : Type 0) (files_before files_now : Option FilesTold) (R : FilesTold → FilesTold → Type 0) → Tells files_before files_now R → (Fine → Ends) → SiteGives words Fine Ends files_before files_now
SiteGives-serving words Fine Ends files_before files_now R told ends =
    Tells-weaker (λ (before now : FilesTold). (folder : List ℕ) (site : Site) → folder_in words ≡ Some folder → built (record { files = (begun before).present; folder = folder }) ≡ Ok site → Fine → Ends) files_before files_now
    (λ (before now : FilesTold) t folder site words_are means fine. ends fine) told

pub SiteGives-number : (words : List (List ℕ)) (files_before files_now : Option FilesTold) (Fine : Type 0) (ended : Status) (number : ℕ)
    → number ≡ number_of ended
    → SiteGives words Fine ((ended ≡ status.Done) ⊎ (ended ≡ status.NoMemory)) files_before files_now
    → SiteGives words Fine ((number ≡ 0) ⊎ (number ≡ 8)) files_before files_now
SiteGives-number words files_before files_now Fine ended number is =
    Tells-weaker (λ (before now : FilesTold). (folder : List ℕ) (site : Site) → folder_in words ≡ Some folder → built (record { files = (begun before).present; folder = folder }) ≡ Ok site → Fine → (number ≡ 0) ⊎ (number ≡ 8)) files_before files_now
    (λ (before now : FilesTold) gives folder site words_are means fine. elim (gives folder site words_are means fine) [
      | inl done ↦ inl (is ∙ ap number_of done)
      | inr none ↦ inr (is ∙ ap number_of none)
    ])

-- each status is one of the list
pub listed : (ended : Status) → IsListed (number_of ended)
listed status.Done = inl refl
listed status.Words = inr (inl refl)
listed status.Configuration = inr (inr (inl refl))
listed status.ReadFault = inr (inr (inr (inl refl)))
listed status.SocketFault = inr (inr (inr (inr (inl refl))))
listed status.PrintFault = inr (inr (inr (inr (inr (inl refl)))))
listed status.Worn = inr (inr (inr (inr (inr (inr (inl refl))))))
listed status.NoMemory = inr (inr (inr (inr (inr (inr (inr refl))))))

-- an end of a run as the number of its status
pub FaultGives-number : (words : List (List ℕ)) (files_before files_now : Option FilesTold) (ended : Status) (number : ℕ)
    → number ≡ number_of ended
    → FaultGives words ((ended ≡ status.Configuration) ⊎ ((ended ≡ status.ReadFault) ⊎ (ended ≡ status.NoMemory))) files_before files_now
    → FaultGives words ((number ≡ 2) ⊎ ((number ≡ 3) ⊎ (number ≡ 8))) files_before files_now
FaultGives-number words files_before files_now ended number is =
    Tells-weaker (λ (before now : FilesTold). (folder : List ℕ) (wrong : BuildFault) → folder_in words ≡ Some folder → built (record { files = (begun before).present; folder = folder }) ≡ Err wrong → (number ≡ 2) ⊎ ((number ≡ 3) ⊎ (number ≡ 8))) files_before files_now
    (λ (before now : FilesTold) gives folder wrong words_are means. elim (gives folder wrong words_are means) [
      | inl configuration ↦ inl (cc)
      | inr (inl read) ↦ inr (inl (cc))
      | inr (inr none) ↦ inr (inr (cc))
    ])

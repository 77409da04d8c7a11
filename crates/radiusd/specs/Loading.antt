-- The load of a site at the start of a run. This project's own.
use Rattle.std.specs.Prelude.{◌≡◌, ◌⊎◌, ◌++◌, List, [], ◌∷◌, Ok, true}
use Rattle.rad_outside.specs.declared.listen.Listen.{Listen}
use Rattle.rad_outside.specs.declared.listen.ListenKind.TheVariants.{Auth}
use Rattle.rad_core.specs.declared.installed.Installed.{Installed}
use Rattle.rad_core.specs.declared.entry.Entry.{Entry}
use Rattle.rad_core.specs.declared.entry.Entry.TheVariants.{Install}
use Rattle.rad_core.specs.Step.{IsLegal}
use Rattle.rad_build.specs.declared.fault.BuildFault.{BuildFault}
use Rattle.rad_site.specs.Site.{Site}
use Rattle.rad_site.specs.Meaning.{site_meaning}
use Rattle.rad_serve.specs.History.{state_after, Installs}

-- The listener of a site: its server's, at its address.
abbrev pub listener_of : Site → Listen
listener_of site = record { server = site.server; kind = Auth; at = site.at }

-- At most one entry was added: worker 0 loaded the site's generation for the site's own listener.
pub record TriesInstall (before after : List (Entry Site BuildFault)) (generation : Site) : Type 0 where
  pub added : List (Entry Site BuildFault)
  pub grows : after ≡ before ++ added
  pub legal : IsLegal site_meaning (state_after before) added
  pub tried : (added ≡ []) ⊎ ((answer : Installed BuildFault) × (added ≡ Install 0 (Ok generation) (listener_of generation ∷ []) answer ∷ []))

-- The generation was installed for its own listener, which is this one, and is the present one.
pub record IsInstalled (before after : List (Entry Site BuildFault)) (generation : Site) (listen : Listen) : Type 0 where
  pub installs : Installs before after generation (listener_of generation ∷ []) true
  pub listen_is : listen ≡ listener_of generation

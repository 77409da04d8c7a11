-- The history that the hub keeps, and the core's state behind it. This project's own.
use Rattle.std.specs.Prelude.{ℕ, ◌≡◌, ◌≤◌, ◌+◌, ◌^◌, ◌++◌, List, [], ◌∷◌, length, Ok, Some, Bool, IsTrue}
use Rattle.rad_turn.specs.declared.view.View.{View}
use Rattle.rad_outside.specs.declared.listen.Listen.{Listen}
use Rattle.rad_core.specs.declared.installed.Installed.{Installed}
use Rattle.rad_core.specs.State.{ServerState, opening}
use Rattle.rad_core.specs.declared.entry.Entry.{Entry}
use Rattle.rad_core.specs.declared.entry.Entry.TheVariants.{Install}
use Rattle.rad_core.specs.Step.{run, May, IsLegal}
use Rattle.rad_build.specs.declared.fault.BuildFault.{BuildFault}
use Rattle.rad_serve.specs.declared.counts.Tally.{Tally}
use Rattle.rad_serve.specs.Counting.{tally_of}
use Rattle.rad_site.specs.Site.{Site}
use Rattle.rad_site.specs.Meaning.{site_meaning}

-- The state after a history, from the opening state.
abbrev pub state_after : List (Entry Site BuildFault) → ServerState Site
state_after history = run site_meaning opening history

-- The history is legal, and nothing is in progress after it.
pub record IsKept (history : List (Entry Site BuildFault)) : Type 0 where
  pub legal : IsLegal site_meaning opening history
  pub idle : (state_after history).table.in_progress ≡ []

-- A seat with this view is the first, and the only one that is out, and keeps the history.
pub record IsAlone {O B : Type 0} (v : View (Entry Site BuildFault) O B) : Type 0 where
  pub name : v.name ≡ 0
  pub out : v.out ≡ []
  pub kept : IsKept v.seen

-- The history has so many entries, at most 2^62, and counts so much.
pub record IsNumbered (history : List (Entry Site BuildFault)) (count : ℕ) (tally : Tally) : Type 0 where
  pub count_is : count ≡ length history
  pub short : length history ≤ 2 ^ 62
  pub tally_is : tally ≡ tally_of history

-- A generation was loaded for these listeners by worker 0: one entry stands at the history's end, and where the
-- answer says so the generation is the present one.
pub record Installs (before after : List (Entry Site BuildFault)) (generation : Site) (listeners : List Listen) (is_present : Bool) : Type 0 where
  pub answer : Installed BuildFault
  pub grows : after ≡ before ++ Install 0 (Ok generation) listeners answer ∷ []
  pub legal : IsLegal site_meaning (state_after before) (Install 0 (Ok generation) listeners answer ∷ [])
  pub present : IsTrue is_present → (state_after after).present ≡ Some generation

-- One entry was added, which may come after the history.
pub record Adds (before after : List (Entry Site BuildFault)) (entry : Entry Site BuildFault) : Type 0 where
  pub grows : after ≡ before ++ entry ∷ []
  pub may : May site_meaning (state_after before) entry

-- The history has no room for two more entries: there are 2^62 at most.
abbrev pub IsFull : List (Entry Site BuildFault) → Type 0
IsFull history = 2 ^ 62 ≤ length history + 1

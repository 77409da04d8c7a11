-- The hub's invariant over an install.
use Rattle.std.proofs.Common.{ℕ, ◌≡◌, List, Bool, IsTrue, Some, Ok, refl, ap, ◌∙◌, subst}
use Rattle.std.proofs.lemmas.Bool.{false≢true}
use Rattle.rad_outside.specs.declared.listen.Listen.{Listen}
use Rattle.rad_turn.specs.declared.view.View.{View}
use Rattle.rad_core.specs.declared.installed.Installed.{Installed}
use Rattle.rad_core.specs.declared.installed.Installed.TheVariants as installed
use Rattle.rad_core.specs.State.{ServerState}
use Rattle.rad_core.specs.declared.entry.Entry.{Entry}
use Rattle.rad_core.specs.declared.entry.Entry.TheVariants.{Install}
use Rattle.rad_core.specs.Step.{after_install}
use Rattle.rad_core.specs.Behind.{TurnAdds}
use Rattle.rad_build.specs.declared.fault.BuildFault.{BuildFault}
use Rattle.rad_site.specs.Site.{Site}
use Rattle.rad_site.specs.Meaning.{site_meaning}
use Rattle.rad_serve.specs.History.{IsAlone, Installs, state_after}
use Rattle.rad_serve.specs.Installing.{is_present_by}
use Rattle.rad_serve.proofs.Kept.{grows, stepped}

-- an install leaves the table
install_table : (state : ServerState Site) (generation : Site) (answer : Installed BuildFault) → (after_install state (Ok generation) answer).table ≡ state.table
install_table state generation (installed.Generation number) = refl
install_table state generation (installed.Refused fault) = refl
install_table state generation (installed.ListenerGone name) = refl

-- a generation that was installed is the present one
install_present : (state : ServerState Site) (generation : Site) (answer : Installed BuildFault) → IsTrue (is_present_by answer) → (after_install state (Ok generation) answer).present ≡ Some generation
install_present state generation (installed.Generation number) says = refl
install_present state generation (installed.Refused fault) says = absurd (false≢true says)
install_present state generation (installed.ListenerGone name) says = absurd (false≢true says)

module _ {O B : Type 0} (v w : View (Entry Site BuildFault) O B) (generation : Site) (listeners : List Listen) (answer : Installed BuildFault) (alone : IsAlone v) (adds : TurnAdds site_meaning v w (Install v.name (Ok generation) listeners answer)) where
  -- the first seat's worker has the number 0
  first_adds : TurnAdds site_meaning v w (Install 0 (Ok generation) listeners answer)
  first_adds = subst (λ (n : ℕ). TurnAdds site_meaning v w (Install n (Ok generation) listeners answer)) alone.name adds

  -- an install leaves the table
  pub install_leaves : (state_after w.seen).table ≡ (state_after v.seen).table
  install_leaves = ap (λ (s : ServerState Site). s.table) (stepped v w (Install 0 (Ok generation) listeners answer) alone first_adds).next ∙ install_table (state_after v.seen) generation answer

  -- what an install adds
  pub installs : (is_present : Bool) → is_present ≡ is_present_by answer → Installs v.seen w.seen generation listeners is_present
  installs is_present says = record {
    answer = answer;
    grows = grows v w (Install 0 (Ok generation) listeners answer) alone first_adds;
    legal = ((stepped v w (Install 0 (Ok generation) listeners answer) alone first_adds).may, tt);
    present = λ holds. ap (λ (s : ServerState Site). s.present) (stepped v w (Install 0 (Ok generation) listeners answer) alone first_adds).next
        ∙ install_present (state_after v.seen) generation answer (subst IsTrue says holds);
  }

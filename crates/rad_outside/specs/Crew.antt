-- What a crew tells: the kits that it handed out, in order. This project's own.
use Rattle.std.specs.Prelude.{ℕ, List, [], ◌∷◌, Option, Result, Ok, Err}
use Rattle.std.specs.Option.{option_map}
use Rattle.std.specs.Borrow.{Bor}
use Rattle.rad_outside.specs.declared.crew.Kit.{Kit}
use Rattle.rad_outside.specs.declared.listen.Listen.{Listen}
use Rattle.rad_outside.specs.declared.fault.KitFault.{KitFault}

-- A kit as it was handed out, for this worker, this listener and this control listener.
pub record Handed (W S K U G : Type 0) : Type 0 where
  pub worker : ℕ
  pub listen : Listen
  pub control : Option Listen
  pub kit : Kit W S K U G

-- What a call adds: the kit that it answered.
abbrev pub handed_by : {W S K U G : Type 0} → ℕ → Listen → Option (Bor Listen) → Result (Kit W S K U G) KitFault → List (Handed W S K U G)
handed_by worker listen control (Ok kit) =
    record { worker = worker; listen = listen; control = option_map (λ l. l.now) control; kit = kit } ∷ []
handed_by worker listen control (Err fault) = []

-- A crew in memory: the kits that it has left, those that it handed out, and the calls that are to fail. This project's own.
use Rattle.std.specs.Prelude.{ℕ, ◌≡◌, ◌++◌, List, [], ◌∷◌, Bool, true, false, Option, Some, None, IfSome, Result, Ok, Err, drop, is_some, if◌then◌else◌}
use Rattle.std.specs.Borrow.{Bor}
use Rattle.rad_edge.specs.Memory.{risen}
use Rattle.rad_edge.specs.Failing.{Plan, fails_next, called}
use Rattle.rad_outside.specs.Crew.{Handed, handed_by}
use Rattle.rad_outside.specs.declared.crew.Kit.{Kit}
use Rattle.rad_outside.specs.declared.listen.Listen.{Listen}
use Rattle.rad_outside.specs.declared.fault.KitFault.{KitFault}
use Rattle.rad_outside.specs.declared.fault.KitFault.TheVariants as fault

-- The kits that it has left, in order, those that it handed out, in order, its count of faults, and which calls are to fail.
pub record CrewState (W S K U G : Type 0) : Type 0 where
  pub spares : List (Kit W S K U G)
  pub handed : List (Handed W S K U G)
  pub faults : ℕ
  pub calls : Plan ℕ

-- No ask of the kit's wires failed last, by this count of failures in a row.
abbrev pub IsFresh : {W S K U G : Type 0} → (W → ℕ) → Kit W S K U G → Type 0
IsFresh failures kit = (failures kit.wire ≡ 0) × IfSome kit.control (λ wire. failures wire ≡ 0)

-- Whether both are there, or neither is.
abbrev pub same_presence : Bool → Bool → Bool
same_presence true true = true
same_presence true false = false
same_presence false true = false
same_presence false false = true

-- The kit that comes next, where it has a control wire exactly as is asked.
abbrev pub next_kit : {W S K U G : Type 0} → List (Kit W S K U G) → Bool → Option (Kit W S K U G)
next_kit [] with_control = None
next_kit (kit ∷ more) with_control = if same_presence (is_some kit.control) with_control then Some kit else None

-- The kit that a call is to hand out: none where it is to fail, and else the next one.
abbrev pub due_kit : {W S K U G : Type 0} → CrewState W S K U G → Bool → Option (Kit W S K U G)
due_kit crew with_control = if fails_next crew.calls then None else next_kit crew.spares with_control

-- The kit that is due is handed out, and where none is due the crew fails. Want of memory comes only where the call isn't to fail.
abbrev pub HandsNext : {W S K U G : Type 0} → CrewState W S K U G → Bool → Result (Kit W S K U G) KitFault → Type 0
HandsNext crew with_control (Ok kit) = due_kit crew with_control ≡ Some kit
HandsNext crew with_control (Err fault.Failed) = due_kit crew with_control ≡ None
HandsNext crew with_control (Err fault.NoMemory) = fails_next crew.calls ≡ false

-- What the crew is after a call.
abbrev pub after_kit : {W S K U G : Type 0} → CrewState W S K U G → ℕ → Listen → Option (Bor Listen) → Result (Kit W S K U G) KitFault → CrewState W S K U G
after_kit crew worker listen control (Ok kit) = record crew {
  spares = drop 1 crew.spares;
  handed = crew.handed ++ handed_by worker listen control (Ok kit);
  calls = called crew.calls;
}
after_kit crew worker listen control (Err fault.Failed) = record crew { faults = risen crew.faults; calls = called crew.calls }
after_kit crew worker listen control (Err fault.NoMemory) = record crew { calls = called crew.calls }

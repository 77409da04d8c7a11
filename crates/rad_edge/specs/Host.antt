-- What the adapters to the host keep exactly: their counts of faults, and the address of a wire. This project's own.
use Rattle.std.specs.Prelude.{ℕ, ◌≡◌, Option, Some, None, Result, Ok, Err}
use Rattle.std.specs.Borrow.{Bor}
use Rattle.rad_edge.specs.Memory.{risen}
use Rattle.rad_edge.specs.declared.host.udp_wire.UdpWire.{UdpWire}
use Rattle.rad_outside.specs.declared.crew.Kit.{Kit}
use Rattle.rad_outside.specs.declared.fault.KitFault.{KitFault}
use Rattle.rad_outside.specs.declared.fault.KitFault.TheVariants as fault
use Rattle.rad_outside.specs.declared.listen.Listen.{Listen}
use Rattle.rad_outside.specs.declared.listen.Peer.{Peer}
use Rattle.rad_outside.specs.declared.wire.Got.{Got}
use Rattle.rad_outside.specs.declared.wire.Got.TheVariants as got

-- The count of faults after an ask: a failure raises it, and nothing else does.
abbrev pub faults_after_ask : Got → ℕ → ℕ
faults_after_ask (got.Datagram octets from) count = count
faults_after_ask got.Quiet count = count
faults_after_ask got.Ended count = count
faults_after_ask got.Failed count = risen count

-- The count of faults after a kit was asked for: a failure raises it, and nothing else does.
abbrev pub faults_after_kit : {W S K U G : Type 0} → Result (Kit W S K U G) KitFault → ℕ → ℕ
faults_after_kit (Ok kit) count = count
faults_after_kit (Err fault.Failed) count = risen count
faults_after_kit (Err fault.NoMemory) count = count

-- A wire that was made for this address, and has not failed yet.
pub record IsBoundTo {R : Type 0} (at : Peer) (wire : UdpWire R) : Type 0 where
  pub address : wire.at ≡ at
  pub faults : wire.faults ≡ 0
  pub row : wire.failures_in_a_row ≡ 0

-- A control wire stands exactly where a control listener was asked for, and is bound to its address.
abbrev pub IsControlOf : {R : Type 0} → Option (Bor Listen) → Option (UdpWire R) → Type 0
IsControlOf None None = Unit {0}
IsControlOf None (Some wire) = ⊥
IsControlOf (Some listen) None = ⊥
IsControlOf (Some listen) (Some wire) = IsBoundTo listen.now.at wire

-- The wires of a kit are bound to the addresses of its listener and of its control listener.
pub record HasKitWires {R S K U G : Type 0} (listen : Listen) (control : Option (Bor Listen)) (kit : Kit (UdpWire R) S K U G) : Type 0 where
  pub own : IsBoundTo listen.at kit.wire
  pub control_wire : IsControlOf control kit.control

use Rattle.std.proofs.Common.{◌≡◌, ◌≤◌}
use Rattle.rad_clients.specs.Networks.{nearest_of}
use Rattle.rad_clients.proofs.clients.Clients.nearest.Given as goal

abbrev pub invariant-loop-bits : goal.invariant-loop-bits
invariant-loop-bits l = (l.bits ≤ 32) × (nearest_of l.bits l.addr l.self ≡ nearest_of 32 l.addr l.self)

abbrev pub decreases-loop-bits : goal.decreases-loop-bits
decreases-loop-bits l = l.bits

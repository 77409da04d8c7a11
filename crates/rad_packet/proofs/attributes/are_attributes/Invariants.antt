use Rattle.std.proofs.Common.{length}
use Rattle.rad_packet.proofs.AttributeLists.{Reaches}
use Rattle.rad_packet.proofs.attributes.are_attributes.Given as goal

abbrev pub invariant-loop-front : goal.invariant-loop-front
invariant-loop-front l = Reaches l.octets l.rest

abbrev pub decreases-loop-front : goal.decreases-loop-front
decreases-loop-front l = length l.rest

use Rattle.std.proofs.Common.{length}
use Rattle.rad_packet.proofs.Signing.{Counted}
use Rattle.rad_packet.proofs.signatures.count_of_kind.Given as goal

abbrev pub invariant-loop-front : goal.invariant-loop-front
invariant-loop-front l = Counted l.fn.kind l.attributes l.rest l.count

abbrev pub decreases-loop-front : goal.decreases-loop-front
decreases-loop-front l = length l.rest

use Rattle.std.proofs.Common.{length}
use Rattle.rad_packet.proofs.Signing.{Feeds}
use Rattle.rad_packet.proofs.signatures.update_zeroed.Given as goal

abbrev pub invariant-loop-front : goal.invariant-loop-front
invariant-loop-front l = Feeds l.fn.hasher l.hasher l.attributes l.rest

abbrev pub decreases-loop-front : goal.decreases-loop-front
decreases-loop-front l = length l.rest

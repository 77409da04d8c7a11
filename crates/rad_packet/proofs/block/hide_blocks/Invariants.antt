use Rattle.std.proofs.Common.{length}
use Rattle.rad_packet.proofs.HiddenBlocks.{Hides}
use Rattle.rad_packet.proofs.block.hide_blocks.Given as goal

abbrev pub invariant-loop-rest : goal.invariant-loop-rest
invariant-loop-rest l = Hides l.secret l.fn.first l.padded l.digest l.rest l.hidden.items

abbrev pub decreases-loop-rest : goal.decreases-loop-rest
decreases-loop-rest l = length l.rest

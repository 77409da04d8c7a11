use Rattle.std.proofs.Common.{length}
use Rattle.rad_packet.proofs.HiddenBlocks.{Reveals}
use Rattle.rad_packet.proofs.block.reveal_blocks.Given as goal

abbrev pub invariant-loop-rest : goal.invariant-loop-rest
invariant-loop-rest l = Reveals l.secret l.fn.first l.hidden l.digest l.rest l.revealed.items

abbrev pub decreases-loop-rest : goal.decreases-loop-rest
decreases-loop-rest l = length l.rest

use Rattle.std.proofs.Common.{length, []}
use Rattle.rad_packet.proofs.Walks.{Makes}
use Rattle.rad_packet.proofs.Signing.{kind_part}
use Rattle.rad_packet.proofs.signatures.first_of_kind.Given as goal

abbrev pub invariant-loop-front : goal.invariant-loop-front
invariant-loop-front l = Makes (kind_part l.fn.kind) [] l.attributes l.rest []

abbrev pub decreases-loop-front : goal.decreases-loop-front
decreases-loop-front l = length l.rest

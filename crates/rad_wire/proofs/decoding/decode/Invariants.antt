use Rattle.std.proofs.Common.{drop, length}
use Rattle.rad_value.specs.PairLists.{no_pairs}
use Rattle.rad_wire.specs.Pairs.{attribute_pairs}
use Rattle.rad_wire.proofs.PairWalks.{MakesPairs}
use Rattle.rad_wire.proofs.decoding.decode.Given as goal

abbrev pub invariant-loop-front : goal.invariant-loop-front
invariant-loop-front l =
    MakesPairs (attribute_pairs l.packet.octets.now l.secret l.dict) no_pairs (drop 20 l.packet.octets.now) l.rest l.lists

abbrev pub decreases-loop-front : goal.decreases-loop-front
decreases-loop-front l = length l.rest

use Rattle.std.proofs.Common.{length}
use Rattle.rad_wire.proofs.PairWalks.{MakesPairs, vendor_part}
use Rattle.rad_wire.proofs.vendor.push_parts.Given as goal

abbrev pub invariant-loop-front : goal.invariant-loop-front
invariant-loop-front l = MakesPairs (vendor_part l.vendor l.dict) l.fn.lists l.parts l.rest l.lists

abbrev pub decreases-loop-front : goal.decreases-loop-front
decreases-loop-front l = length l.rest

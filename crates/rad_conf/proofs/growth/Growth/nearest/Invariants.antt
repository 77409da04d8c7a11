use Rattle.std.proofs.Common.{◌≡◌, length, reverse}
use Rattle.rad_conf.specs.Variables.{nearest_value}
use Rattle.rad_conf.proofs.growth.Growth.nearest.Given as goal

abbrev pub invariant-loop-block : goal.invariant-loop-block
invariant-loop-block l = nearest_value l.name l.nodes (reverse l.opens) ≡ nearest_value l.name l.self.nodes (reverse l.self.opens)

abbrev pub decreases-loop-block : goal.decreases-loop-block
decreases-loop-block l = length l.opens

use Rattle.std.proofs.Common.{◌≡◌, length}
use Rattle.rad_conf.specs.Variables.{last_value}
use Rattle.rad_conf.proofs.variable.searched.Given as goal

abbrev pub invariant-loop-node : goal.invariant-loop-node
invariant-loop-node l = last_value l.name l.rest ≡ last_value l.name l.nodes

abbrev pub decreases-loop-node : goal.decreases-loop-node
decreases-loop-node l = length l.rest

use Rattle.std.proofs.Common.{◌≡◌, take, map}
use Rattle.rad_conf.specs.Variables.{within}
use Rattle.rad_conf.proofs.variable.within.Given as goal

abbrev pub invariant-loop-node : goal.invariant-loop-node
invariant-loop-node l = map (λ node. node.now) l.found.items ≡ within l.kind (map (λ node. node.now) (take l.node-index l.nodes))

use Rattle.std.proofs.Common.{◌≡◌, ◌++◌, length, map}
use Rattle.rad_conf.proofs.variable.push_all.Given as goal

abbrev pub invariant-loop-node : goal.invariant-loop-node
invariant-loop-node l = map (λ node. node.now) l.to.items ++ l.rest ≡ map (λ node. node.now) l.fn.to.items ++ l.nodes

abbrev pub decreases-loop-node : goal.decreases-loop-node
decreases-loop-node l = length l.rest

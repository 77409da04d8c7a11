use Rattle.rad_conf.proofs.Weight.{weight-opened, weight-popped}
use Rattle.rad_conf.proofs.tree.take_apart.Goals as goal

pub loop-node-smaller-in-Ok : goal.loop-node-smaller-in-Ok
loop-node-smaller-in-Ok c = rw (c.in-Ok.ensures, c.in-Some.ensures) (weight-opened c.pop.new.self c.in-Some.node c.in-Some-body_of.body (cc))

pub loop-node-smaller : goal.loop-node-smaller
loop-node-smaller c = rw c.in-Some.ensures (weight-popped c.pop.new.self c.in-Some.node)

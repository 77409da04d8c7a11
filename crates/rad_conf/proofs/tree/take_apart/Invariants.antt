use Rattle.rad_conf.proofs.Weight.{weight}
use Rattle.rad_conf.proofs.tree.take_apart.Given as goal

abbrev pub decreases-loop-node : goal.decreases-loop-node
decreases-loop-node l = weight l.left

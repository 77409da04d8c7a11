use Rattle.std.proofs.Common.{◌≡◌, length}
use Rattle.rad_conf.specs.Variables.{has_dot}
use Rattle.rad_conf.proofs.variable.has_dot.Given as goal

abbrev pub invariant-loop-octet : goal.invariant-loop-octet
invariant-loop-octet l = has_dot l.rest ≡ has_dot l.name

abbrev pub decreases-loop-octet : goal.decreases-loop-octet
decreases-loop-octet l = length l.rest

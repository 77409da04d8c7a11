use Rattle.std.proofs.Common.{◌≡◌, [], length, map}
use Rattle.rad_conf.specs.Variables.{value_from, level_of}
use Rattle.rad_conf.proofs.variable.value_from.Given as goal

abbrev pub invariant-loop-octet : goal.invariant-loop-octet
invariant-loop-octet l = value_from l.part.items l.rest l.last (map (λ node. node.now) l.sight.nodes.items, l.sight.inner.now) ≡ value_from [] l.name l.last (level_of l.opens l.last, l.opens)

abbrev pub decreases-loop-octet : goal.decreases-loop-octet
decreases-loop-octet l = length l.rest

use Rattle.std.proofs.Common.{◌≡◌, take, map}
use Rattle.std.specs.Option.{option_map}
use Rattle.rad_conf.specs.Variables.{last_value}
use Rattle.rad_conf.proofs.variable.last_seen.Given as goal

abbrev pub invariant-loop-node : goal.invariant-loop-node
invariant-loop-node l = option_map (λ value. value.now) l.found ≡ last_value l.name (map (λ node. node.now) (take l.node-index l.nodes))

use Rattle.std.proofs.Common.{◌≡◌, [], drop}
use Rattle.rad_build.specs.Nodes.{after_each}
use Rattle.rad_build.specs.RealmBlock.{with_item}
use Rattle.rad_build.proofs.realms.realms_in.Given as goal

abbrev pub invariant-loop-node : goal.invariant-loop-node
invariant-loop-node l = after_each with_item l.known (drop l.node-index l.nodes) ≡ after_each with_item [] l.nodes

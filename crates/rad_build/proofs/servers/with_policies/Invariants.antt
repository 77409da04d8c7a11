use Rattle.std.proofs.Common.{◌≡◌, drop}
use Rattle.rad_build.specs.Nodes.{after_each}
use Rattle.rad_build.specs.ServerBlocks.{with_policy}
use Rattle.rad_build.proofs.servers.with_policies.Given as goal

abbrev pub invariant-loop-item : goal.invariant-loop-item
invariant-loop-item l = after_each with_policy l.known (drop l.item-index l.items) ≡ after_each with_policy l.initial.known l.items

use Rattle.std.proofs.Common.{◌≡◌, drop}
use Rattle.rad_build.specs.Nodes.{after_each}
use Rattle.rad_build.specs.ServerBlocks.{with_item}
use Rattle.rad_build.proofs.servers.with_items.Given as goal

abbrev pub invariant-loop-item : goal.invariant-loop-item
invariant-loop-item l = after_each (with_item l.name) l.known (drop l.item-index l.items) ≡ after_each (with_item l.name) l.initial.known l.items

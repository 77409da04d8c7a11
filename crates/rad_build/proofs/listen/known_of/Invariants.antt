use Rattle.std.proofs.Common.{◌≡◌, drop}
use Rattle.rad_build.specs.Nodes.{after_each}
use Rattle.rad_build.specs.ListenBlock.{nothing, with_item}
use Rattle.rad_build.proofs.listen.known_of.Given as goal

abbrev pub invariant-loop-item : goal.invariant-loop-item
invariant-loop-item l = after_each with_item l.known (drop l.item-index l.items) ≡ after_each with_item nothing l.items

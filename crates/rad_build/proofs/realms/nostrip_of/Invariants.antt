use Rattle.std.proofs.Common.{◌≡◌, false, drop}
use Rattle.rad_build.specs.Nodes.{after_each}
use Rattle.rad_build.specs.RealmBlock.{with_setting}
use Rattle.rad_build.proofs.realms.nostrip_of.Given as goal

abbrev pub invariant-loop-item : goal.invariant-loop-item
invariant-loop-item l = after_each with_setting l.nostrip (drop l.item-index l.items) ≡ after_each with_setting false l.items

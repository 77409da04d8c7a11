use Rattle.std.proofs.Common.{◌≡◌, drop}
use Rattle.rad_build.specs.Nodes.{after_each}
use Rattle.rad_build.specs.ClientBlock.{no_settings, HasPrefix, with_setting}
use Rattle.rad_build.proofs.client.settings_of.Given as goal

abbrev pub invariant-loop-item : goal.invariant-loop-item
invariant-loop-item l = HasPrefix l.known × (after_each with_setting l.known (drop l.item-index l.items) ≡ after_each with_setting no_settings l.items)

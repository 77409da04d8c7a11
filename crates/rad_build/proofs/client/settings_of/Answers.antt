use Rattle.std.proofs.lemmas.Result.{err_from_is_err_and}
use Rattle.rad_build.specs.Nodes.{after_each}
use Rattle.rad_build.specs.ClientBlock.{no_settings, with_setting}
use Rattle.rad_build.proofs.BlockItems.{goes_on, goes_wrong, is_done}
use Rattle.rad_build.proofs.client.settings_of.Goals as goal

pub returns-in_err-known-clause-known : goal.returns-in_err-known-clause-known
returns-in_err-known-clause-known c =
    let p = err_from_is_err_and c.from_residual.result c.from_residual.ensures.1 in
    rw (p.1, p.2) (goes_wrong with_setting c.loop-item.known c.args.items.now c.loop-item.item-index c.item-item.result (after_each with_setting no_settings c.args.items.now) c.in_err-known.field-0.0 c.loop-item-test.true c.item-item.is c.in_err-known.ensures.known c.loop-item.invariant.1)

pub loop-item-preserved : goal.loop-item-preserved
loop-item-preserved c =
    (c.in_ok-known.ensures.fits, goes_on with_setting c.loop-item.known c.in_ok-known.known c.args.items.now c.loop-item.item-index c.item-item.result (after_each with_setting no_settings c.args.items.now) c.loop-item-test.true c.item-item.is c.in_ok-known.ensures.known c.loop-item.invariant.1)

pub returns-clause-known : goal.returns-clause-known
returns-clause-known c = is_done with_setting c.loop-item.known c.args.items.now c.loop-item.item-index (after_each with_setting no_settings c.args.items.now) c.loop-item-test.false c.loop-item.invariant.1

use Rattle.std.proofs.Common.{false}
use Rattle.std.proofs.lemmas.Result.{err_from_is_err_and}
use Rattle.rad_build.specs.Nodes.{after_each}
use Rattle.rad_build.specs.RealmBlock.{with_setting}
use Rattle.rad_build.proofs.BlockItems.{goes_on, goes_wrong, is_done}
use Rattle.rad_build.proofs.realms.nostrip_of.Goals as goal

pub returns-in_err-nostrip : goal.returns-in_err-nostrip
returns-in_err-nostrip c =
    let p = err_from_is_err_and c.from_residual.result c.from_residual.ensures.1 in
    rw (p.1, p.2) (goes_wrong with_setting c.loop-item.nostrip c.args.items.now c.loop-item.item-index c.item-item.result (after_each with_setting false c.args.items.now) c.in_err-nostrip.field-0.0 c.loop-item-test.true c.item-item.is c.in_err-nostrip.ensures c.loop-item.invariant)

pub loop-item-preserved : goal.loop-item-preserved
loop-item-preserved c =
    goes_on with_setting c.loop-item.nostrip c.in_ok-nostrip.nostrip c.args.items.now c.loop-item.item-index c.item-item.result (after_each with_setting false c.args.items.now) c.loop-item-test.true c.item-item.is c.in_ok-nostrip.ensures c.loop-item.invariant

pub returns : goal.returns
returns c = is_done with_setting c.loop-item.nostrip c.args.items.now c.loop-item.item-index (after_each with_setting false c.args.items.now) c.loop-item-test.false c.loop-item.invariant

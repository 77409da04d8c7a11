use Rattle.std.proofs.lemmas.Result.{err_from_is_err_and}
use Rattle.rad_build.specs.Nodes.{after_each}
use Rattle.rad_build.specs.ListenBlock.{nothing, with_item}
use Rattle.rad_build.proofs.BlockItems.{goes_on, goes_wrong, is_done}
use Rattle.rad_build.proofs.listen.known_of.Goals as goal

pub returns-in_err-known : goal.returns-in_err-known
returns-in_err-known c =
    let p = err_from_is_err_and c.from_residual.result c.from_residual.ensures.1 in
    rw (p.1, p.2) (goes_wrong with_item c.loop-item.known c.args.items.now c.loop-item.item-index c.item-item.result (after_each with_item nothing c.args.items.now) c.in_err-known.field-0.0 c.loop-item-test.true c.item-item.is c.in_err-known.ensures c.loop-item.invariant)

pub loop-item-preserved : goal.loop-item-preserved
loop-item-preserved c =
    goes_on with_item c.loop-item.known c.in_ok-known.known c.args.items.now c.loop-item.item-index c.item-item.result (after_each with_item nothing c.args.items.now) c.loop-item-test.true c.item-item.is c.in_ok-known.ensures c.loop-item.invariant

pub returns : goal.returns
returns c = is_done with_item c.loop-item.known c.args.items.now c.loop-item.item-index (after_each with_item nothing c.args.items.now) c.loop-item-test.false c.loop-item.invariant

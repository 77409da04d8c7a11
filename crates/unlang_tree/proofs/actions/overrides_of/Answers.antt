use Rattle.std.proofs.Common.{[]}
use Rattle.std.proofs.lemmas.Result.{err_from_is_err_and}
use Rattle.unlang_tree.specs.Readings.{after_each}
use Rattle.unlang_tree.specs.Actions.{with_override}
use Rattle.unlang_tree.proofs.Walks.{goes_on, goes_wrong, is_done}
use Rattle.unlang_tree.proofs.actions.overrides_of.Goals as goal

pub returns-in_err-with_override : goal.returns-in_err-with_override
returns-in_err-with_override c =
    let step = with_override in
    let p = err_from_is_err_and c.from_residual.result c.from_residual.ensures.1 in
    rw (p.1, p.2) (goes_wrong step c.loop-node.overrides c.args.nodes.now c.loop-node.node-index c.node-item.result (after_each step [] c.args.nodes.now) c.in_err-with_override.field-0.0 c.loop-node-test.true c.node-item.is c.in_err-with_override.ensures c.loop-node.invariant)

pub loop-node-preserved : goal.loop-node-preserved
loop-node-preserved c =
    let step = with_override in
    goes_on step c.loop-node.overrides c.with_override.new.overrides c.args.nodes.now c.loop-node.node-index c.node-item.result (after_each step [] c.args.nodes.now) c.loop-node-test.true c.node-item.is c.in_ok-with_override.ensures c.loop-node.invariant

pub returns : goal.returns
returns c =
    let step = with_override in
    is_done step c.loop-node.overrides c.args.nodes.now c.loop-node.node-index (after_each step [] c.args.nodes.now) c.loop-node-test.false c.loop-node.invariant

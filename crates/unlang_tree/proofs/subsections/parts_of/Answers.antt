use Rattle.std.proofs.Common.{[], false}
use Rattle.std.proofs.lemmas.Result.{err_from_is_err_and}
use Rattle.unlang_tree.specs.Readings.{after_each}
use Rattle.unlang_tree.specs.Sites.{site_of}
use Rattle.unlang_tree.specs.Sections.{with_part}
use Rattle.unlang_tree.proofs.Walks.{goes_on, goes_wrong, is_done}
use Rattle.unlang_tree.proofs.subsections.parts_of.Goals as goal

pub returns-in_err-with_part : goal.returns-in_err-with_part
returns-in_err-with_part c =
    let step = with_part (site_of c.args.site.now) c.args.section in
    let p = err_from_is_err_and c.from_residual.result c.from_residual.ensures.1 in
    rw (p.1, p.2) (goes_wrong step c.loop-node.known c.args.body.now c.loop-node.node-index c.node-item.result (after_each step (record { statements = []; subsections = []; room = c.args.room; may_go_on = false }) c.args.body.now) c.in_err-with_part.field-0.0 c.loop-node-test.true c.node-item.is c.in_err-with_part.ensures c.loop-node.invariant)

pub loop-node-preserved : goal.loop-node-preserved
loop-node-preserved c =
    let step = with_part (site_of c.args.site.now) c.args.section in
    goes_on step c.loop-node.known c.with_part.new.known c.args.body.now c.loop-node.node-index c.node-item.result (after_each step (record { statements = []; subsections = []; room = c.args.room; may_go_on = false }) c.args.body.now) c.loop-node-test.true c.node-item.is c.in_ok-with_part.ensures c.loop-node.invariant

pub returns : goal.returns
returns c =
    let step = with_part (site_of c.args.site.now) c.args.section in
    is_done step c.loop-node.known c.args.body.now c.loop-node.node-index (after_each step (record { statements = []; subsections = []; room = c.args.room; may_go_on = false }) c.args.body.now) c.loop-node-test.false c.loop-node.invariant

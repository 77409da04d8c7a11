use Rattle.std.proofs.Common.{[]}
use Rattle.std.proofs.lemmas.Result.{err_from_is_err_and}
use Rattle.unlang_tree.specs.Readings.{most_statements, after_each}
use Rattle.unlang_tree.specs.Sites.{site_of}
use Rattle.unlang_tree.specs.Sections.{with_item}
use Rattle.unlang_tree.proofs.Walks.{goes_on, goes_wrong, is_done}
use Rattle.unlang_tree.proofs.servers.known_of.Goals as goal

pub returns-in_err-with_item : goal.returns-in_err-with_item
returns-in_err-with_item c =
    let step = with_item (site_of c.args.site.now) in
    let p = err_from_is_err_and c.from_residual.result c.from_residual.ensures.1 in
    rw (p.1, p.2) (goes_wrong step c.loop-item.known c.args.items.now c.loop-item.item-index c.item-item.result (after_each step (record { sections = []; room = most_statements }) c.args.items.now) c.in_err-with_item.field-0.0 c.loop-item-test.true c.item-item.is c.in_err-with_item.ensures c.loop-item.invariant)

pub loop-item-preserved : goal.loop-item-preserved
loop-item-preserved c =
    let step = with_item (site_of c.args.site.now) in
    goes_on step c.loop-item.known c.with_item.new.known c.args.items.now c.loop-item.item-index c.item-item.result (after_each step (record { sections = []; room = most_statements }) c.args.items.now) c.loop-item-test.true c.item-item.is c.in_ok-with_item.ensures c.loop-item.invariant

pub returns : goal.returns
returns c =
    let step = with_item (site_of c.args.site.now) in
    is_done step c.loop-item.known c.args.items.now c.loop-item.item-index (after_each step (record { sections = []; room = most_statements }) c.args.items.now) c.loop-item-test.false c.loop-item.invariant

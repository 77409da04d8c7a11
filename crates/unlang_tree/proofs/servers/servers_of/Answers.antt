use Rattle.std.proofs.Common.{[]}
use Rattle.std.proofs.lemmas.Result.{err_from_is_err_and}
use Rattle.unlang_tree.specs.Readings.{after_each}
use Rattle.unlang_tree.specs.Sites.{site_of}
use Rattle.unlang_tree.specs.Policies.{with_server}
use Rattle.unlang_tree.proofs.Walks.{goes_on, goes_wrong, is_done}
use Rattle.unlang_tree.proofs.servers.servers_of.Goals as goal

pub returns-in_err-with_server : goal.returns-in_err-with_server
returns-in_err-with_server c =
    let step = with_server (site_of c.args.site.now) in
    let p = err_from_is_err_and c.from_residual.result c.from_residual.ensures.1 in
    rw (p.1, p.2) (goes_wrong step c.loop-node.servers c.args.site.now.root.now c.loop-node.node-index c.node-item.result (after_each step [] c.args.site.now.root.now) c.in_err-with_server.field-0.0 c.loop-node-test.true c.node-item.is c.in_err-with_server.ensures c.loop-node.invariant)

pub loop-node-preserved : goal.loop-node-preserved
loop-node-preserved c =
    let step = with_server (site_of c.args.site.now) in
    goes_on step c.loop-node.servers c.with_server.new.servers c.args.site.now.root.now c.loop-node.node-index c.node-item.result (after_each step [] c.args.site.now.root.now) c.loop-node-test.true c.node-item.is c.in_ok-with_server.ensures c.loop-node.invariant

pub returns : goal.returns
returns c =
    let step = with_server (site_of c.args.site.now) in
    is_done step c.loop-node.servers c.args.site.now.root.now c.loop-node.node-index (after_each step [] c.args.site.now.root.now) c.loop-node-test.false c.loop-node.invariant

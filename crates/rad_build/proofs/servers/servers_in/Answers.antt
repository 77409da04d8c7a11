use Rattle.std.proofs.lemmas.Result.{err_from_is_err_and}
use Rattle.rad_build.specs.Nodes.{after_each}
use Rattle.rad_build.specs.ServerBlocks.{no_servers, with_server}
use Rattle.rad_build.proofs.BlockItems.{goes_on, goes_wrong, is_done}
use Rattle.rad_build.proofs.servers.servers_in.Goals as goal

pub returns-in_err-known : goal.returns-in_err-known
returns-in_err-known c =
    let p = err_from_is_err_and c.from_residual.result c.from_residual.ensures.1 in
    rw (p.1, p.2) (goes_wrong with_server c.loop-node.known c.args.nodes.now c.loop-node.node-index c.node-item.result (after_each with_server no_servers c.args.nodes.now) c.in_err-known.field-0.0 c.loop-node-test.true c.node-item.is c.in_err-known.ensures c.loop-node.invariant)

pub loop-node-preserved : goal.loop-node-preserved
loop-node-preserved c =
    goes_on with_server c.loop-node.known c.in_ok-known.known c.args.nodes.now c.loop-node.node-index c.node-item.result (after_each with_server no_servers c.args.nodes.now) c.loop-node-test.true c.node-item.is c.in_ok-known.ensures c.loop-node.invariant

pub returns : goal.returns
returns c = is_done with_server c.loop-node.known c.args.nodes.now c.loop-node.node-index (after_each with_server no_servers c.args.nodes.now) c.loop-node-test.false c.loop-node.invariant

use Rattle.std.proofs.Common.{◌++◌, List, sym, ap, ◌∙◌}
use Rattle.rad_conf.specs.declared.tree.Node.{Node}
use Rattle.rad_conf.specs.Variables.{body_of_kind}
use Rattle.rad_conf.proofs.Seen.{within_more}
use Rattle.rad_conf.proofs.variable.within.Goals as goal

pub loop-node-preserved : goal.loop-node-preserved
loop-node-preserved c =
    c.in_ok-push_body.ensures ∙ ap (λ (front : List Node). front ++ body_of_kind c.args.kind.now c.node-item.result.now) c.loop-node.invariant
    ∙ sym (within_more (λ node. node.now) c.args.kind.now c.args.nodes.now c.loop-node.node-index c.node-item.result c.loop-node-test.true c.node-item.is)

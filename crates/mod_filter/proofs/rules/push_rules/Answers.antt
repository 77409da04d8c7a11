use Rattle.std.proofs.Common.{sym, ◌∙◌}
use Rattle.mod_filter.proofs.Ruling.{push_step}
use Rattle.mod_filter.proofs.rules.push_rules.Goals as goal

pub loop-n-preserved : goal.loop-n-preserved
loop-n-preserved c users at =
    push_step users c.args.number c.loop-n.n c.args.entry.now c.in-Some.item.now c.loop-n.rules.items c.push_rule.new.rules.items at (sym c.in-Some.ensures) c.in_ok-push_rule.ensures
    ∙ c.loop-n.invariant users at

use Rattle.std.proofs.Common.{sym, arith}
use Rattle.radclient.specs.Groups.{with_items}
use Rattle.radclient.proofs.Readings.{items_more, items_end, none_past}
use Rattle.radclient.proofs.groups.add_items.Goals as goal

pub loop-n-preserved : goal.loop-n-preserved
loop-n-preserved c =
    items_more c.loop-n.pairs c.args.items.now c.loop-n.n c.in-Some.item.now (sym c.in-Some.ensures) (with_items c.args.pairs.now c.args.items.now) c.add.new.pairs c.in_ok-add.ensures c.loop-n.invariant

pub returns-after-loop-n : goal.returns-after-loop-n
returns-after-loop-n c = sym (items_end c.loop-n.pairs c.args.items.now c.loop-n.n (with_items c.args.pairs.now c.args.items.now) (omega (arith, c.loop-n-test.false, c.len-n-end.ensures)) c.loop-n.invariant)

pub returns-in_default : goal.returns-in_default
returns-in_default c = sym (items_end c.loop-n.pairs c.args.items.now c.loop-n.n (with_items c.args.pairs.now c.args.items.now) (none_past c.args.items.now c.loop-n.n (sym c.in_default.ensures)) c.loop-n.invariant)

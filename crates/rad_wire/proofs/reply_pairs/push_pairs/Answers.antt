use Rattle.std.proofs.Common.{sym, arith}
use Rattle.rad_wire.proofs.Fitting.{Writes-more, Writes-full, Writes-end, Writes-none}
use Rattle.rad_wire.proofs.reply_pairs.push_pairs.Goals as goal

pub loop-n-preserved : goal.loop-n-preserved
loop-n-preserved c =
    Writes-more c.args.limit c.args.reply.now.items c.args.lists.now.reply c.loop-n.n c.loop-n.reply.items c.push_pair.new.reply.items c.in-Some.pair.now
    c.loop-n.invariant (sym c.in-Some.ensures) (rw c.if-not-branch.false at c.in_ok-push_pair.ensures)

pub returns-after-loop-n : goal.returns-after-loop-n
returns-after-loop-n c = record {
  written = Writes-end c.args.limit c.args.reply.now.items c.args.lists.now.reply c.loop-n.n c.loop-n.reply.items c.loop-n.invariant
      (omega (arith, c.loop-n-test.false, c.len-n-end.ensures.length));
}

pub returns-in_default : goal.returns-in_default
returns-in_default c = record {
  written = Writes-none c.args.limit c.args.reply.now.items c.args.lists.now.reply c.loop-n.n c.loop-n.reply.items c.loop-n.invariant (sym c.in_default.ensures);
}

pub returns-then-not-branch : goal.returns-then-not-branch
returns-then-not-branch c = record {
  written = Writes-full c.args.limit c.args.reply.now.items c.args.lists.now.reply c.loop-n.n c.loop-n.reply.items c.push_pair.new.reply.items c.in-Some.pair.now
      c.loop-n.invariant (sym c.in-Some.ensures) (rw c.if-not-branch.true at c.in_ok-push_pair.ensures);
}

use Rattle.rad_wire.proofs.Fitting.{Writes}
use Rattle.rad_wire.proofs.reply_pairs.push_pairs.Given as goal

abbrev pub invariant-loop-n : goal.invariant-loop-n
invariant-loop-n l = Writes l.limit l.fn.reply.items l.lists.reply l.n l.reply.items

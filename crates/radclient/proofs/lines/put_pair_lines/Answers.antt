use Rattle.std.proofs.Common.{sym}
use Rattle.radclient.proofs.Printed.{lines_more}
use Rattle.radclient.proofs.lines.put_pair_lines.Goals as goal

pub loop-n-preserved : goal.loop-n-preserved
loop-n-preserved c =
    lines_more c.args.text.now.items c.loop-n.text.items c.put_pair_line.new.text.items c.args.pairs.now.request c.loop-n.n c.in-Some.pair.now
    (sym c.in-Some.ensures) c.loop-n.invariant c.in_ok-put_pair_line.ensures

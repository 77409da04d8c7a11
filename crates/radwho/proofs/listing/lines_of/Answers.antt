use Rattle.std.proofs.Common.{arith}
use Rattle.radwho.proofs.Sessions.{line_goes, lines_end}
use Rattle.radwho.proofs.listing.lines_of.Goals as goal

pub loop-index-preserved : goal.loop-index-preserved
loop-index-preserved c =
    line_goes c.args.wanted.now c.args.sessions.now c.loop-index.index c.loop-index.text.items c.put_line_at.new.text.items _ (omega arith) c.in_ok-put_line_at.ensures c.loop-index.invariant

pub returns : goal.returns
returns c = lines_end c.args.wanted.now c.args.sessions.now c.loop-index.index c.loop-index.text.items _ (omega arith) c.loop-index.invariant

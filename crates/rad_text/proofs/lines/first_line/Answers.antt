use Rattle.std.proofs.Common.{[], sym, ap}
use Rattle.rad_text.proofs.LineEnds.{others, cut}
use Rattle.rad_text.proofs.lines.first_line.Goals as goal

pub returns-in-Some-clause-lines : goal.returns-in-Some-clause-lines
returns-in-Some-clause-lines c =
    cut c.args.text.now c.split_at.result.0.now c.split_at.result.1.now c.in-Some.after.now c.line_len.result c.requires c.line_len.ensures.length c.split_at.ensures.front c.split_at.ensures.back
    (ap others (sym c.in-Some.ensures.exact))

pub returns-in-None-clause-lines : goal.returns-in-None-clause-lines
returns-in-None-clause-lines c =
    cut c.args.text.now c.split_at.result.0.now c.split_at.result.1.now [] c.line_len.result c.requires c.line_len.ensures.length c.split_at.ensures.front c.split_at.ensures.back
    (ap others (sym c.in-None.ensures.exact))

use Rattle.std.proofs.Common.{sym}
use Rattle.std.proofs.lemmas.Bool.{eqb-true}
use Rattle.rad_text.specs.Lines.{lines_of}
use Rattle.radclient.specs.Groups.{lines_read}
use Rattle.radclient.proofs.Readings.{lines_more, lines_wrong, lines_end}
use Rattle.radclient.proofs.groups.Reading.read_lines.Goals as goal
use Rattle.std.proofs.Common.{length}

pub loop-rest-preserved : goal.loop-rest-preserved
loop-rest-preserved c =
    lines_more c.loop-rest.self (lines_of c.loop-rest.rest.now) c.first_line.result.0.now (lines_of c.first_line.result.1.now) c.first_line.ensures.lines
    (lines_read c.args.self.now (lines_of c.args.text.now)) c.read_line.new.self c.in-Ok.ensures c.loop-rest.invariant

pub returns-in-Err : goal.returns-in-Err
returns-in-Err c =
    lines_wrong c.loop-rest.self (lines_of c.loop-rest.rest.now) c.first_line.result.0.now (lines_of c.first_line.result.1.now) c.first_line.ensures.lines
    (lines_read c.args.self.now (lines_of c.args.text.now)) c.in-Err.error c.in-Err.ensures c.loop-rest.invariant

pub returns : goal.returns
returns c =
    lines_end c.loop-rest.self c.loop-rest.rest.now (lines_read c.args.self.now (lines_of c.args.text.now))
    (eqb-true (length c.loop-rest.rest.now) 0 (sym c.loop-rest-test.ensures)) c.loop-rest.invariant

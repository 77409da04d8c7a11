use Rattle.rad_text.proofs.LineEnds.{written_newline, written_return}
use Rattle.rad_text.proofs.laws.lines_end_as_they_are_written.Goals as goal

pub returns-clause-newline : goal.returns-clause-newline
returns-clause-newline c = λ line rest whole. written_newline line rest whole

pub returns-clause-carriage_return : goal.returns-clause-carriage_return
returns-clause-carriage_return c = λ line rest whole. written_return line rest whole

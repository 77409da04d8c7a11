use Rattle.rad_conf.proofs.JoinedLines.{ends_lines, ends_windows_lines, joins_lines}
use Rattle.rad_conf.proofs.laws.lines_are_read_as_they_are_written.Goals as goal

pub returns-clause-newline : goal.returns-clause-newline
returns-clause-newline c = ends_lines

pub returns-clause-carriage_return : goal.returns-clause-carriage_return
returns-clause-carriage_return c = ends_windows_lines

pub returns-clause-joined : goal.returns-clause-joined
returns-clause-joined c = joins_lines

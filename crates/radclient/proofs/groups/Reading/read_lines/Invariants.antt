use Rattle.std.proofs.Common.{◌≡◌, length}
use Rattle.rad_text.specs.Lines.{lines_of}
use Rattle.radclient.specs.Groups.{lines_read}
use Rattle.radclient.proofs.groups.Reading.read_lines.Given as goal

-- the lines that are left are read as all are
abbrev pub invariant-loop-rest : goal.invariant-loop-rest
invariant-loop-rest l = lines_read l.initial.self (lines_of l.text) ≡ lines_read l.self (lines_of l.rest)

abbrev pub decreases-loop-rest : goal.decreases-loop-rest
decreases-loop-rest l = length l.rest

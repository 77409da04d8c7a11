use Rattle.std.proofs.Common.{◌≡◌, ◌+◌, ◌≤◌, ◌++◌, length}
use Rattle.rad_conf.specs.Lines.{lines_from, lines_of}
use Rattle.rad_conf.proofs.lines.lines_of.Given as goal

abbrev pub invariant-loop-octet : goal.invariant-loop-octet
invariant-loop-octet l = record {
  so_far : l.out.items ++ lines_from l.joined l.inside l.rest ≡ lines_of l.text;
  shorter : length l.out.items + l.joined + length l.rest ≤ length l.text;
}

abbrev pub decreases-loop-octet : goal.decreases-loop-octet
decreases-loop-octet l = length l.rest

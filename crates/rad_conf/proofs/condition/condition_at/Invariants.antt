use Rattle.std.proofs.Common.{◌≡◌, ◌+◌, ◌≤◌, length}
use Rattle.rad_conf.specs.Conditions.{condition_from, condition_at}
use Rattle.rad_conf.proofs.condition.condition_at.Given as goal

abbrev pub invariant-loop-octet : goal.invariant-loop-octet
invariant-loop-octet l = record {
  so_far : condition_from l.growth l.out.items l.depth l.lines l.awaits l.passed l.rest ≡ condition_at l.growth l.text;
  lines_so_far : l.lines + length l.rest ≤ length l.text;
  nested : l.depth + length l.rest ≤ length l.text;
}

abbrev pub decreases-loop-octet : goal.decreases-loop-octet
decreases-loop-octet l = length l.rest

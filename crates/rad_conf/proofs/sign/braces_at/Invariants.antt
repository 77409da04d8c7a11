use Rattle.std.proofs.Common.{◌≡◌, ◌+◌, ◌≤◌, length}
use Rattle.rad_conf.specs.Signs.{inside_from, braces_at}
use Rattle.rad_conf.proofs.sign.braces_at.Given as goal

abbrev pub invariant-loop-octet : goal.invariant-loop-octet
invariant-loop-octet l = record {
  so_far : inside_from l.depth l.len l.rest ≡ braces_at l.text;
  length_so_far : l.len + length l.rest + 1 ≡ length l.text;
  nested : l.depth ≤ l.len;
}

abbrev pub decreases-loop-octet : goal.decreases-loop-octet
decreases-loop-octet l = length l.rest

use Rattle.std.proofs.Common.{◌≡◌, ◌+◌, length}
use Rattle.rad_sessions.specs.Log.{mark_at}
use Rattle.rad_sessions.proofs.cut.mark_at.Given as goal

abbrev pub invariant-loop-octet : goal.invariant-loop-octet
invariant-loop-octet l = record {
  so_far : l.place + mark_at l.mark l.rest ≡ mark_at l.mark l.text;
  length_so_far : l.place + length l.rest ≡ length l.text;
}

abbrev pub decreases-loop-octet : goal.decreases-loop-octet
decreases-loop-octet l = length l.rest

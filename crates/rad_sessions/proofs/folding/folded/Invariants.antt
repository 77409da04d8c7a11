use Rattle.std.proofs.Common.{◌≡◌, ◌≤◌, length}
use Rattle.rad_sessions.specs.Listed.{limit}
use Rattle.rad_sessions.specs.Log.{folded, folded_onto}
use Rattle.rad_sessions.proofs.folding.folded.Given as goal

abbrev pub invariant-loop-line : goal.invariant-loop-line
invariant-loop-line l = record {
  whole : folded_onto l.listed l.rest ≡ folded l.bytes;
  fits : length l.listed ≤ limit;
}

abbrev pub decreases-loop-line : goal.decreases-loop-line
decreases-loop-line l = length l.rest

use Rattle.std.proofs.Common.{◌≡◌, ◌≤◌, length}
use Rattle.rad_text.specs.Blanks.{after_blanks}
use Rattle.rad_text.proofs.blanks.after_blanks.Given as goal

abbrev pub invariant-loop-octet : goal.invariant-loop-octet
invariant-loop-octet l = record {
  so_far : after_blanks l.rest ≡ after_blanks l.text;
  shorter : length l.rest ≤ length l.text;
}

abbrev pub decreases-loop-octet : goal.decreases-loop-octet
decreases-loop-octet l = length l.rest

use Rattle.std.proofs.Common.{◌≡◌, ◌≤◌, length}
use Rattle.rad_conf.specs.Words.{after_comment}
use Rattle.rad_conf.proofs.word.after_comment.Given as goal

abbrev pub invariant-loop-octet : goal.invariant-loop-octet
invariant-loop-octet l = record {
  so_far : after_comment l.rest ≡ after_comment l.text;
  shorter : length l.rest ≤ length l.text;
}

abbrev pub decreases-loop-octet : goal.decreases-loop-octet
decreases-loop-octet l = length l.rest

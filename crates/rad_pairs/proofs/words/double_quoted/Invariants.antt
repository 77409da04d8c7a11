use Rattle.std.proofs.Common.{◌≡◌, ◌≤◌, length}
use Rattle.rad_pairs.specs.Words.{double_quoted}
use Rattle.rad_pairs.proofs.words.double_quoted.Given as goal
use Rattle.rad_pairs.proofs.WordLemmas.{in_front}

abbrev pub invariant-loop-octet : goal.invariant-loop-octet
invariant-loop-octet l = record {
  so_far : in_front l.octets.items (double_quoted 0 l.rest) ≡ double_quoted 0 l.text;
  shorter : length l.rest ≤ length l.text;
}

abbrev pub decreases-loop-octet : goal.decreases-loop-octet
decreases-loop-octet l = length l.rest

use Rattle.std.proofs.Common.{◌≡◌, ◌+◌, length, take, drop}
use Rattle.rad_pairs.specs.Words.{single_quoted}
use Rattle.rad_pairs.proofs.words.single_quoted.Given as goal
use Rattle.rad_pairs.proofs.WordLemmas.{in_front}

abbrev pub invariant-loop-octet : goal.invariant-loop-octet
invariant-loop-octet l = record {
  so_far : in_front (take l.len l.text) (single_quoted l.rest) ≡ single_quoted l.text;
  rest_is : drop l.len l.text ≡ l.rest;
  length_so_far : l.len + length l.rest ≡ length l.text;
}

abbrev pub decreases-loop-octet : goal.decreases-loop-octet
decreases-loop-octet l = length l.rest

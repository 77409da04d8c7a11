use Rattle.std.proofs.Common.{◌≡◌, ◌+◌, length}
use Rattle.rad_pairs.specs.Words.{name_len}
use Rattle.rad_pairs.proofs.words.name_len.Given as goal

abbrev pub invariant-loop-after : goal.invariant-loop-after
invariant-loop-after l = record {
  so_far : l.len + name_len l.rest ≡ name_len l.text;
  length_so_far : l.len + length l.rest ≡ length l.text;
}

abbrev pub decreases-loop-after : goal.decreases-loop-after
decreases-loop-after l = length l.rest

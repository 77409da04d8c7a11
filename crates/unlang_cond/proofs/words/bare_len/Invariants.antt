use Rattle.std.proofs.Common.{◌≡◌, ◌+◌, ◌≤◌, length}
use Rattle.unlang_cond.specs.Words.{bare_len}
use Rattle.unlang_cond.proofs.words.bare_len.Given as goal

abbrev pub invariant-loop-after : goal.invariant-loop-after
invariant-loop-after l = record {
  so_far : l.len + bare_len l.passed l.rest ≡ bare_len 0 l.text;
  length_so_far : l.len + length l.rest ≡ length l.text;
  within : l.passed ≤ length l.rest;
}

abbrev pub decreases-loop-after : goal.decreases-loop-after
decreases-loop-after l = length l.rest

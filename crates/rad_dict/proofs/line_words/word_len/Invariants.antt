use Rattle.std.proofs.Common.{◌≡◌, ◌+◌, length}
use Rattle.rad_dict.specs.LineWords.{word_len}
use Rattle.rad_dict.proofs.line_words.word_len.Given as goal

abbrev pub invariant-loop-octet : goal.invariant-loop-octet
invariant-loop-octet l = record {
  so_far : l.len + word_len l.rest ≡ word_len l.text;
  length_so_far : l.len + length l.rest ≡ length l.text;
}

abbrev pub decreases-loop-octet : goal.decreases-loop-octet
decreases-loop-octet l = length l.rest

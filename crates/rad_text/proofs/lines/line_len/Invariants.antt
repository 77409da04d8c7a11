use Rattle.std.proofs.Common.{◌≡◌, ◌+◌, length}
use Rattle.rad_text.specs.Lines.{line_len}
use Rattle.rad_text.proofs.lines.line_len.Given as goal

abbrev pub invariant-loop-after : goal.invariant-loop-after
invariant-loop-after l = record {
  so_far : l.len + line_len l.rest ≡ line_len l.text;
  length_so_far : l.len + length l.rest ≡ length l.text;
}

abbrev pub decreases-loop-after : goal.decreases-loop-after
decreases-loop-after l = length l.rest

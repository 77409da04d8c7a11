use Rattle.std.proofs.Common.{◌≡◌, ◌+◌, length}
use Rattle.unlang_xlat.specs.Spans.{len_before}
use Rattle.unlang_xlat.proofs.spans.len_before.Given as goal

abbrev pub invariant-loop-octet : goal.invariant-loop-octet
invariant-loop-octet l = record {
  so_far : l.len + len_before l.one l.other l.rest ≡ len_before l.one l.other l.text;
  length_so_far : l.len + length l.rest ≡ length l.text;
}

abbrev pub decreases-loop-octet : goal.decreases-loop-octet
decreases-loop-octet l = length l.rest

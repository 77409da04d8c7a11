use Rattle.std.proofs.Common.{◌≡◌, ◌+◌, length}
use Rattle.unlang_reference.specs.Reading.{name_len}
use Rattle.unlang_reference.proofs.reading.name_len.Given as goal

abbrev pub invariant-loop-octet : goal.invariant-loop-octet
invariant-loop-octet l = record {
  so_far : l.len + name_len l.rest ≡ name_len l.text;
  length_so_far : l.len + length l.rest ≡ length l.text;
}

abbrev pub decreases-loop-octet : goal.decreases-loop-octet
decreases-loop-octet l = length l.rest

use Rattle.std.proofs.Common.{◌≡◌, ◌+◌, length}
use Rattle.radclient.specs.Words.{host_len}
use Rattle.radclient.proofs.words.host_len.Given as goal

abbrev pub invariant-loop-octet : goal.invariant-loop-octet
invariant-loop-octet l = record {
  so_far : l.len + host_len l.rest ≡ host_len l.word;
  length_so_far : l.len + length l.rest ≡ length l.word;
}

abbrev pub decreases-loop-octet : goal.decreases-loop-octet
decreases-loop-octet l = length l.rest

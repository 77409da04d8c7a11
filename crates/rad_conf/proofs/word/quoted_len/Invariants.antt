use Rattle.std.proofs.Common.{◌≡◌, ◌+◌, length}
use Rattle.rad_conf.specs.Words.{quoted_from, quoted_len}
use Rattle.rad_conf.proofs.word.quoted_len.Given as goal

abbrev pub invariant-loop-octet : goal.invariant-loop-octet
invariant-loop-octet l = record {
  so_far : quoted_from l.quote l.len l.escaped l.rest ≡ quoted_len l.quote l.text;
  length_so_far : l.len + length l.rest ≡ length l.text;
}

abbrev pub decreases-loop-octet : goal.decreases-loop-octet
decreases-loop-octet l = length l.rest

use Rattle.std.proofs.Common.{◌≡◌, length}
use Rattle.unlang_cond.specs.Words.{written_from, written}
use Rattle.unlang_cond.proofs.words.written.Given as goal

abbrev pub invariant-loop-octet : goal.invariant-loop-octet
invariant-loop-octet l = written_from l.how l.out.items l.escaped l.rest ≡ written l.how l.raw

abbrev pub decreases-loop-octet : goal.decreases-loop-octet
decreases-loop-octet l = length l.rest

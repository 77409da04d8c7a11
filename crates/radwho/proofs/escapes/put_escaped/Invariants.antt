use Rattle.std.proofs.Common.{◌≡◌, ◌++◌, length}
use Rattle.radwho.specs.Lines.{escaped}
use Rattle.radwho.proofs.escapes.put_escaped.Given as goal

abbrev pub invariant-loop-octet : goal.invariant-loop-octet
invariant-loop-octet l = l.text.items ++ escaped l.commas l.rest ≡ l.initial.text.items ++ escaped l.commas l.octets

abbrev pub decreases-loop-octet : goal.decreases-loop-octet
decreases-loop-octet l = length l.rest

use Rattle.std.proofs.Common.{◌≡◌, ◌++◌, replicate}
use Rattle.rad_dates.proofs.padded.put_often.Given as goal

abbrev pub invariant-loop : goal.invariant-loop
invariant-loop l = l.text.items ≡ l.initial.text.items ++ replicate l.counter l.octet

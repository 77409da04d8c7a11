use Rattle.std.proofs.Common.{◌≡◌, ◌++◌, replicate}
use Rattle.rad_conf.proofs.lines.push_newlines.Given as goal

abbrev pub invariant-loop : goal.invariant-loop
invariant-loop l = l.out.items ≡ l.initial.out.items ++ replicate l.counter 10

use Rattle.mod_filter.proofs.Ruling.{Found}
use Rattle.mod_filter.proofs.rules.rules_for.Given as goal

abbrev pub invariant-loop-n : goal.invariant-loop-n
invariant-loop-n l = Found l.users l.key l.n l.made.found l.made.rules.items

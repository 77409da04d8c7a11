use Rattle.std.proofs.Common.{◌≡◌, drop}
use Rattle.std.specs.List.{list_any}
use Rattle.mod_filter.specs.Filter.{speaks_of, rules_at}
use Rattle.mod_filter.proofs.filter.speak.Given as goal

abbrev pub invariant-loop-rule : goal.invariant-loop-rule
invariant-loop-rule l = list_any (speaks_of l.pair) (rules_at l.users (drop l.rule-index l.rules)) ≡ list_any (speaks_of l.pair) (rules_at l.users l.rules)

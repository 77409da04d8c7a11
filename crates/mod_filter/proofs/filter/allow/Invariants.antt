use Rattle.std.proofs.Common.{◌≡◌, drop}
use Rattle.std.specs.List.{list_all}
use Rattle.mod_filter.specs.Filter.{allows, rules_at}
use Rattle.mod_filter.proofs.filter.allow.Given as goal

abbrev pub invariant-loop-rule : goal.invariant-loop-rule
invariant-loop-rule l = list_all (allows l.dict l.pair) (rules_at l.users (drop l.rule-index l.rules)) ≡ list_all (allows l.dict l.pair) (rules_at l.users l.rules)

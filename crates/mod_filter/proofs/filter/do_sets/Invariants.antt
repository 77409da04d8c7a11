use Rattle.std.proofs.Common.{◌≡◌, drop}
use Rattle.mod_users.specs.Files.{all_tried}
use Rattle.mod_filter.specs.Filter.{sets_of, rules_at}
use Rattle.mod_filter.proofs.filter.do_sets.Given as goal

abbrev pub invariant-loop-rule : goal.invariant-loop-rule
invariant-loop-rule l = all_tried l.lists (sets_of l.list (rules_at l.users (drop l.rule-index l.rules))) ≡ all_tried l.fn.lists (sets_of l.list (rules_at l.users l.rules))

use Rattle.std.proofs.Common.{◌≡◌, ◌++◌, drop, filter, not, List, Some}
use Rattle.std.specs.List.{slice_get}
use Rattle.mod_users.specs.declared.entry.Entry.{Entry}
use Rattle.mod_users.specs.Files.{is_fall_through}
use Rattle.mod_filter.specs.Filter.{rules_of, rules_at}
use Rattle.mod_filter.proofs.rules.push_rules.Given as goal

abbrev pub invariant-loop-n : goal.invariant-loop-n
invariant-loop-n l = (users : List Entry) → slice_get users l.number ≡ Some l.entry
    → rules_at users l.rules.items ++ filter (λ item. not (is_fall_through item)) (drop l.n l.entry.replies) ≡ rules_at users l.fn.rules.items ++ rules_of l.entry

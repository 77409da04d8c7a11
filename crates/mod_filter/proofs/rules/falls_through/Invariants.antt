use Rattle.std.proofs.Common.{◌≡◌, drop}
use Rattle.std.specs.List.{list_any}
use Rattle.mod_filter.specs.Filter.{goes_through}
use Rattle.mod_filter.proofs.rules.falls_through.Given as goal

abbrev pub invariant-loop-n : goal.invariant-loop-n
invariant-loop-n l = list_any goes_through (drop l.n l.entry.replies) ≡ list_any goes_through l.entry.replies

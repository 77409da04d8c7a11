use Rattle.std.proofs.Common.{◌≡◌, ◌-◌, ◌≤◌, ◌++◌, length, drop, map}
use Rattle.mod_users.specs.Search.{row_key}
use Rattle.mod_users.proofs.search.names_of.Given as goal

abbrev pub invariant-loop-n : goal.invariant-loop-n
invariant-loop-n l = record {
  within : l.n ≤ length l.rows;
  names : l.names ++ map row_key (drop l.n l.rows) ≡ map row_key l.rows;
}

abbrev pub decreases-loop-n : goal.decreases-loop-n
decreases-loop-n l = length l.rows - l.n

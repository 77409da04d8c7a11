use Rattle.std.specs.List.{find}
use Rattle.std.proofs.Common.{◌≡◌, drop}
use Rattle.mod_auth.specs.Known.{is_password}
use Rattle.mod_auth.proofs.scheme.known_password.Given as goal

-- the first of the four isn't among the pairs so far
abbrev pub invariant-loop-n : goal.invariant-loop-n
invariant-loop-n l = find is_password l.lists.control ≡ find is_password (drop l.n l.lists.control)

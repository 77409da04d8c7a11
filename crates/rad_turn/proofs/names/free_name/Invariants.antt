use Rattle.std.proofs.Common.{◌≡◌, ◌≤◌, ◌+◌, drop}
use Rattle.rad_turn.specs.Names.{free_from}
use Rattle.rad_turn.proofs.names.free_name.Given as goal

abbrev pub invariant-loop-taken : goal.invariant-loop-taken
invariant-loop-taken l = (l.name ≤ l.taken-index + 1) × (free_from l.name (drop l.taken-index l.fn.out) ≡ free_from 1 l.fn.out)

use Rattle.std.proofs.Common.{◌≡◌, length}
use Rattle.rad_args.specs.Words.{are_once}
use Rattle.rad_args.proofs.once.are_once.Given as goal

abbrev pub invariant-loop-item : goal.invariant-loop-item
invariant-loop-item l = are_once l.rest ≡ are_once l.items

abbrev pub decreases-loop-item : goal.decreases-loop-item
decreases-loop-item l = length l.rest

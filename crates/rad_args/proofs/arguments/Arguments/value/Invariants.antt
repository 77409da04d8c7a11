use Rattle.std.proofs.Common.{◌≡◌, length}
use Rattle.rad_args.specs.Found.{value_of}
use Rattle.rad_args.proofs.arguments.Arguments.value.Given as goal

abbrev pub invariant-loop-item : goal.invariant-loop-item
invariant-loop-item l = value_of l.letter l.rest ≡ value_of l.letter l.self

abbrev pub decreases-loop-item : goal.decreases-loop-item
decreases-loop-item l = length l.rest

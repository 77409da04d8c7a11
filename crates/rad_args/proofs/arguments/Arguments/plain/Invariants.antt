use Rattle.std.proofs.Common.{◌≡◌, length}
use Rattle.std.specs.List.{slice_get}
use Rattle.rad_args.specs.Found.{plain_words}
use Rattle.rad_args.proofs.arguments.Arguments.plain.Given as goal

abbrev pub invariant-loop-item : goal.invariant-loop-item
invariant-loop-item l = slice_get (plain_words l.rest) l.left ≡ slice_get (plain_words l.self) l.index

abbrev pub decreases-loop-item : goal.decreases-loop-item
decreases-loop-item l = length l.rest

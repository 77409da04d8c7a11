use Rattle.std.proofs.Common.{◌≡◌, length}
use Rattle.rad_args.specs.Words.{has_letter}
use Rattle.rad_args.proofs.once.has_letter.Given as goal

abbrev pub invariant-loop-item : goal.invariant-loop-item
invariant-loop-item l = has_letter l.letter l.rest ≡ has_letter l.letter l.items

abbrev pub decreases-loop-item : goal.decreases-loop-item
decreases-loop-item l = length l.rest

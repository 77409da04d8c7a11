use Rattle.std.proofs.Common.{◌≡◌, length}
use Rattle.rad_args.specs.Words.{in_front, joined}
use Rattle.rad_args.proofs.joined.put_joined.Given as goal

abbrev pub invariant-loop-letter : goal.invariant-loop-letter
invariant-loop-letter l = in_front l.items.items (joined l.flags l.options l.rest) ≡ in_front l.initial.items.items (joined l.flags l.options l.text)

abbrev pub decreases-loop-letter : goal.decreases-loop-letter
decreases-loop-letter l = length l.rest

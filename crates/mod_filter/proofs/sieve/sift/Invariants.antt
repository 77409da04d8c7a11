use Rattle.std.proofs.Common.{◌-◌, length}
use Rattle.rad_value.specs.PairLists.{list_of}
use Rattle.mod_filter.proofs.Sifting.{Sifted}
use Rattle.mod_filter.proofs.sieve.sift.Given as goal

abbrev pub invariant-loop-n : goal.invariant-loop-n
invariant-loop-n g l = Sifted (g.S.Sieve.keeps l.sieve) l.list l.fn.lists l.lists l.n

abbrev pub decreases-loop-n : goal.decreases-loop-n
decreases-loop-n g l = length (list_of l.lists l.list) - l.n

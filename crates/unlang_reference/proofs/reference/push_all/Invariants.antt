use Rattle.std.proofs.Common.{◌≡◌, ◌++◌, take}
use Rattle.rad_value.specs.PairLists.{list_of}
use Rattle.rad_value.specs.Pairs as pairs
use Rattle.unlang_reference.proofs.reference.push_all.Given as goal

abbrev pub invariant-loop-n : goal.invariant-loop-n
invariant-loop-n l = l.values.items ≡ l.fn.values.items ++ pairs.values_of l.attr (take l.n (list_of l.lists l.list))

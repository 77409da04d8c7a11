use Rattle.std.proofs.Common.{◌≡◌, ◌++◌, take}
use Rattle.unlang_tree.proofs.depth.put_names.Given as goal

abbrev pub invariant-loop-one : goal.invariant-loop-one
invariant-loop-one l = l.names ≡ l.fn.names ++ take l.one-index l.more

use Rattle.std.proofs.Common.{◌≡◌, [], drop}
use Rattle.unlang_tree.specs.Readings.{after_each}
use Rattle.unlang_tree.specs.Updates.{with_line}
use Rattle.unlang_tree.proofs.updates.lines_of.Given as goal

abbrev pub invariant-loop-node : goal.invariant-loop-node
invariant-loop-node l = after_each (with_line l.dict l.block) l.lines (drop l.node-index l.nodes) ≡ after_each (with_line l.dict l.block) [] l.nodes

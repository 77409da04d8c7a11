use Rattle.std.proofs.Common.{◌≡◌, [], drop}
use Rattle.unlang_tree.specs.Readings.{after_each}
use Rattle.unlang_tree.specs.Actions.{with_override}
use Rattle.unlang_tree.proofs.actions.overrides_of.Given as goal

abbrev pub invariant-loop-node : goal.invariant-loop-node
invariant-loop-node l = after_each with_override l.overrides (drop l.node-index l.nodes) ≡ after_each with_override [] l.nodes

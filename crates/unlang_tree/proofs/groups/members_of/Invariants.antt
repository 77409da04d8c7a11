use Rattle.std.proofs.Common.{◌≡◌, [], drop}
use Rattle.unlang_tree.specs.Readings.{after_each}
use Rattle.unlang_tree.specs.Sites.{site_of}
use Rattle.unlang_tree.specs.Groups.{begun, with_statement}
use Rattle.unlang_tree.proofs.groups.members_of.Given as goal

abbrev pub invariant-loop-node : goal.invariant-loop-node
invariant-loop-node l = after_each (with_statement (site_of l.site) l.section) l.members (drop l.node-index l.nodes) ≡ after_each (with_statement (site_of l.site) l.section) (begun [] l.room) l.nodes

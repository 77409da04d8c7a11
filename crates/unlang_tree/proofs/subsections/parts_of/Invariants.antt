use Rattle.std.proofs.Common.{◌≡◌, [], false, drop}
use Rattle.unlang_tree.specs.Readings.{after_each}
use Rattle.unlang_tree.specs.Sites.{site_of}
use Rattle.unlang_tree.specs.Sections.{with_part}
use Rattle.unlang_tree.proofs.subsections.parts_of.Given as goal

abbrev pub invariant-loop-node : goal.invariant-loop-node
invariant-loop-node l = after_each (with_part (site_of l.site) l.section) l.known (drop l.node-index l.body) ≡ after_each (with_part (site_of l.site) l.section) (record { statements = []; subsections = []; room = l.room; may_go_on = false }) l.body

use Rattle.std.proofs.Common.{◌≡◌, ◌+◌, ◌*◌, drop}
use Rattle.unlang_tree.specs.Readings.{after_each}
use Rattle.unlang_tree.specs.Sites.{site_of}
use Rattle.unlang_tree.specs.Depths.{depth_of}
use Rattle.unlang_tree.specs.Groups.{with_member, opened_at}
use Rattle.unlang_tree.proofs.groups.+blocks.Given as goal

abbrev pub invariant-each_member-loop-node : goal.invariant-each_member-loop-node
invariant-each_member-loop-node l =
    after_each (with_member (opened_at (site_of l.site) l.section l.within) (site_of l.site) l.section (depth_of l.depth) l.form) l.members (drop l.node-index l.body)
    ≡ after_each (with_member (opened_at (site_of l.site) l.section l.within) (site_of l.site) l.section (depth_of l.depth) l.form) l.fn.first l.body

abbrev pub decreases-members_in : goal.decreases-members_in
decreases-members_in l = 8 * l.within + 3

abbrev pub decreases-group_at : goal.decreases-group_at
decreases-group_at l = 8 * l.within + 4

abbrev pub decreases-arm_at : goal.decreases-arm_at
decreases-arm_at l = 8 * l.within + 4

abbrev pub decreases-policy_call : goal.decreases-policy_call
decreases-policy_call l = 8 * l.within + 4

abbrev pub decreases-statement_by : goal.decreases-statement_by
decreases-statement_by l = 8 * l.within + 5

abbrev pub decreases-with_member : goal.decreases-with_member
decreases-with_member l = 8 * l.within + 6

abbrev pub decreases-each_member : goal.decreases-each_member
decreases-each_member l = 8 * l.within + 7

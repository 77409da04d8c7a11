use Rattle.std.proofs.Common.{arith, ◌-◌, subst}
use Rattle.std.proofs.lemmas.Result.{err_from_is_err_and}
use Rattle.unlang_tree.specs.declared.groups.Members.{Members}
use Rattle.unlang_tree.specs.Readings.{Gives, after_each}
use Rattle.unlang_tree.specs.Sites.{site_of}
use Rattle.unlang_tree.specs.Depths.{depth_of}
use Rattle.unlang_tree.specs.Groups.{with_member, opened_at}
use Rattle.unlang_tree.proofs.Walks.{goes_on, goes_wrong, is_done}
use Rattle.unlang_tree.proofs.GroupLevels.{none_within, some_within}
use Rattle.unlang_tree.proofs.groups.+blocks.Goals as goal

pub each_member-returns-in_err-with_member : goal.each_member-returns-in_err-with_member
each_member-returns-in_err-with_member t c =
    let step = with_member (opened_at (site_of c.args.site.now) c.args.section c.args.within) (site_of c.args.site.now) c.args.section (depth_of c.args.depth.now) c.args.form in
    let p = err_from_is_err_and c.from_residual.result c.from_residual.ensures.1 in
    rw (p.1, p.2) (goes_wrong step c.loop-node.members c.args.body.now c.loop-node.node-index c.node-item.result (after_each step c.args.first c.args.body.now) c.in_err-with_member.field-0.0 c.loop-node-test.true c.node-item.is c.in_err-with_member.ensures c.loop-node.invariant)

pub each_member-loop-node-preserved : goal.each_member-loop-node-preserved
each_member-loop-node-preserved t c =
    let step = with_member (opened_at (site_of c.args.site.now) c.args.section c.args.within) (site_of c.args.site.now) c.args.section (depth_of c.args.depth.now) c.args.form in
    goes_on step c.loop-node.members c.with_member.new.members c.args.body.now c.loop-node.node-index c.node-item.result (after_each step c.args.first c.args.body.now) c.loop-node-test.true c.node-item.is c.in_ok-with_member.ensures c.loop-node.invariant

pub each_member-returns : goal.each_member-returns
each_member-returns t c =
    let step = with_member (opened_at (site_of c.args.site.now) c.args.section c.args.within) (site_of c.args.site.now) c.args.section (depth_of c.args.depth.now) c.args.form in
    is_done step c.loop-node.members c.args.body.now c.loop-node.node-index (after_each step c.args.first c.args.body.now) c.loop-node-test.false c.loop-node.invariant

pub members_in-returns-then-within-eq0 : goal.members_in-returns-then-within-eq0
members_in-returns-then-within-eq0 t c =
    rw (none_within (site_of c.args.site.now) c.args.section c.args.within (depth_of c.args.depth.now) c.args.place.now c.args.form c.args.overrides c.args.room c.args.body.now c.if-within-eq0.true)
    c.refuse.ensures

pub members_in-returns : goal.members_in-returns
members_in-returns t c =
    let step = with_member (opened_at (site_of c.args.site.now) c.args.section (c.args.within - 1)) (site_of c.args.site.now) c.args.section (depth_of c.args.depth.now) c.args.form in
    rw (some_within (site_of c.args.site.now) c.args.section c.args.within (depth_of c.args.depth.now) c.args.place.now c.args.form c.args.overrides c.args.room c.args.body.now (omega (arith, c.if-within-eq0.false)))
    (subst (λ (first : Members). Gives c.each_member.result (after_each step first c.args.body.now)) c.begun-first.ensures c.each_member.ensures)

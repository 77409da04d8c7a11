use Rattle.std.proofs.Common.{[], map, sym, subst, ap, ◌∙◌}
use Rattle.std.specs.Arc.{arc_value}
use Rattle.rad_sessions.specs.Parts.{IsParted, joined, parts_after}
use Rattle.rad_sessions.proofs.Order.{ordered}
use Rattle.rad_sessions.proofs.Parting.{changed, after_fits}
use Rattle.rad_sessions.proofs.parts.Parts.after.Goals as goal

pub invariant_of-result : goal.invariant_of-result
invariant_of-result c =
    let lists = map arc_value c.self.inside.parts.items in
    let next = c.in_ok-parts_after.ensures ∙ ap (λ l. parts_after 0 (map arc_value l) c.args.change.now) c.as_slice.ensures.value in
    subst IsParted (sym next) (changed lists c.args.change.now c.self.invariant).1

pub returns-clause-list : goal.returns-clause-list
returns-clause-list c =
    let lists = map arc_value c.self.inside.parts.items in
    let next = c.in_ok-parts_after.ensures ∙ ap (λ l. parts_after 0 (map arc_value l) c.args.change.now) c.as_slice.ensures.value in
    rw (← c.self.view_is) (ap (joined []) next ∙ (changed lists c.args.change.now c.self.invariant).0)

pub returns-clause-fits : goal.returns-clause-fits
returns-clause-fits c =
    let lists = map arc_value c.self.inside.parts.items in
    let next = c.in_ok-parts_after.ensures ∙ ap (λ l. parts_after 0 (map arc_value l) c.args.change.now) c.as_slice.ensures.value in
    let is = ap (joined []) next ∙ (changed lists c.args.change.now c.self.invariant).0 in
    rw (← c.self.view_is, is) (after_fits (joined [] lists) c.args.change.now (ordered (joined [] lists) c.self.invariant.order))

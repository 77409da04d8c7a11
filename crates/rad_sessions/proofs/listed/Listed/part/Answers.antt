use Rattle.std.proofs.Common.{◌≡◌, [], filter, rules, subst, ◌∙◌}
use Rattle.std.specs.Arc.{arc_value}
use Rattle.std.specs.List.Sorted.{IsStrictlySortedBy}
use Rattle.rad_sessions.specs.Listed.{AreInOrder, place_cmp}
use Rattle.rad_sessions.specs.Parts.{all_begun, is_in}
use Rattle.rad_sessions.proofs.Keying.{keyed_places}
use Rattle.rad_sessions.proofs.Merging.{begun_again_all}
use Rattle.rad_sessions.proofs.listed.Listed.part.Goals as goal

pub returns-clause-list : goal.returns-clause-list
returns-clause-list c =
    let order : AreInOrder c.args.self.now = rw (← c.self.view_is) (subst (IsStrictlySortedBy place_cmp) (keyed_places arc_value c.self.inside.entries.entries c.self.invariant) c.iter-session-items.ensures.ordered) in
    let all : c.loop-session.listed ≡ all_begun [] (filter (is_in c.args.part) c.args.self.now) = search rules in
    all ∙ begun_again_all (is_in c.args.part) c.args.self.now order

pub returns-clause-order : goal.returns-clause-order
returns-clause-order c = rw (← c.self.view_is) (subst (IsStrictlySortedBy place_cmp) (keyed_places arc_value c.self.inside.entries.entries c.self.invariant) c.iter-session-items.ensures.ordered)

use Rattle.std.proofs.Common.{◌<◌, ◌^◌, List, length, refl, ap, sym, ◌∙◌, subst}
use Rattle.rad_turn.specs.Sides.{view}
use Rattle.rad_core.specs.State.{ServerState}
use Rattle.rad_core.specs.declared.entry.Entry.{Entry}
use Rattle.rad_core.specs.declared.entry.Entry.TheVariants.{Look}
use Rattle.rad_build.specs.declared.fault.BuildFault.{BuildFault}
use Rattle.rad_site.specs.Site.{Site}
use Rattle.rad_serve.specs.HubSeen.{HubSeen}
use Rattle.rad_serve.proofs.Tallies.{tally_still}
use Rattle.rad_serve.proofs.Kept.{grows, stepped, kept_one}
use Rattle.rad_serve.proofs.hub.Hub.look.Goals as goal

pub invariant_of-self : goal.invariant_of-self
invariant_of-self g c =
    let v = view c.self.inside.seat in
    let w = view c.look.new.seat in
    let entry : Entry Site BuildFault = Look v.name c.in-Ok.seen in
    let alone = c.self.invariant.1 in
    let adds = c.in-Ok.ensures.had in
    let few = subst (λ (h : List (Entry Site BuildFault)). length h < 2 ^ 62) (sym (ap (λ (h : HubSeen _). h.history) c.self.view_is)) c.requires in
    let kept = kept_one v w entry alone adds c.self.inside.length c.self.inside.tally c.self.inside.tally c.look.ensures.same
    (ap (λ (s : ServerState Site). s.table) (stepped v w entry alone adds).next) c.self.invariant.2 few
    (c.self.invariant.2.tally_is ∙ sym (tally_still v.seen w.seen entry (grows v w entry alone adds) refl refl refl refl)) in
    (c.look.ensures.own, kept.0, kept.1)

use Rattle.std.proofs.Common.{◌≡◌, ◌<◌, ◌^◌, List, length, Bool, Result, Ok, ap, sym, ◌∙◌, subst}
use Rattle.std.specs.Arc.{arc_value}
use Rattle.rad_turn.specs.Sides.{view}
use Rattle.rad_core.specs.declared.entry.Entry.{Entry}
use Rattle.rad_core.specs.declared.entry.Entry.TheVariants.{Install}
use Rattle.rad_build.specs.declared.fault.BuildFault.{BuildFault}
use Rattle.rad_site.specs.Site.{Site}
use Rattle.rad_serve.specs.declared.counts.Tally.{Tally}
use Rattle.rad_serve.specs.Counting.{tally_of, with_load}
use Rattle.rad_serve.specs.HubSeen.{HubSeen}
use Rattle.rad_serve.specs.History.{Installs}
use Rattle.rad_serve.proofs.Tallies.{tally_load}
use Rattle.rad_serve.proofs.Kept.{grows, kept_one}
use Rattle.rad_serve.proofs.Installs.{installs, install_leaves}
use Rattle.rad_serve.proofs.hub.Hub.install.Goals as goal

pub invariant_of-self : goal.invariant_of-self
invariant_of-self g c =
    let v = view c.self.inside.seat in
    let w = view c.install.new.seat in
    let site : Site = arc_value c.args.generation in
    let load : Result Site BuildFault = Ok site in
    let entry : Entry Site BuildFault = Install v.name load c.args.listeners.now c.in-Ok.answer in
    let alone = c.self.invariant.1 in
    let adds = c.in-Ok.ensures.had in
    let numbered = c.self.invariant.2 in
    let is_present = c.is_present-installed.result in
    let few = subst (λ (h : List (Entry Site BuildFault)). length h < 2 ^ 62) (sym (ap (λ (h : HubSeen _). h.history) c.self.view_is)) c.requires in
    let counted : c.with_load-self-inside.result ≡ tally_of w.seen =
    c.with_load-self-inside.ensures ∙ ap (λ (t : Tally). with_load is_present t) numbered.tally_is ∙ ap (λ (b : Bool). with_load b (tally_of v.seen)) c.is_present-installed.ensures
    ∙ sym (tally_load v.seen w.seen v.name load c.args.listeners.now c.in-Ok.answer (grows v w entry alone adds)) in
    let kept = kept_one v w entry alone adds c.self.inside.length c.self.inside.tally c.with_load-self-inside.result c.install.ensures.same
    (install_leaves v w site c.args.listeners.now c.in-Ok.answer alone adds) numbered few counted in
    (c.install.ensures.own, kept.0, kept.1)

pub returns-clause-installed : goal.returns-clause-installed
returns-clause-installed g c =
    let v = view c.self.inside.seat in
    let w = view c.install.new.seat in
    subst (λ (h : List (Entry Site BuildFault)). Installs h w.seen (arc_value c.args.generation) c.args.listeners.now c.is_present-installed.result)
    (ap (λ (h : HubSeen _). h.history) c.self.view_is)
    (installs v w (arc_value c.args.generation) c.args.listeners.now c.in-Ok.answer c.self.invariant.1 c.in-Ok.ensures.had c.is_present-installed.result c.is_present-installed.ensures)

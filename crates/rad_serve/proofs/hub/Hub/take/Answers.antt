use Rattle.std.proofs.Common.{◌+◌, ◌≤◌, ◌^◌, List, length, Bool, ap, sym, ◌∙◌, subst, arith}
use Rattle.rad_turn.specs.Sides.{view}
use Rattle.rad_core.specs.State.{opening}
use Rattle.rad_core.specs.Step.{IsLegal}
use Rattle.rad_core.specs.declared.entry.Entry.{Entry}
use Rattle.rad_core.proofs.Histories.{IsLegal-append}
use Rattle.rad_build.specs.declared.fault.BuildFault.{BuildFault}
use Rattle.rad_site.specs.Site.{Site}
use Rattle.rad_site.specs.Meaning.{site_meaning}
use Rattle.rad_serve.specs.declared.counts.Tally.{Tally}
use Rattle.rad_serve.specs.Counting.{tally_of, with_request}
use Rattle.rad_serve.specs.HubSeen.{HubSeen}
use Rattle.rad_serve.proofs.hub.Hub.take.Goals as goal

pub invariant_of-self : goal.invariant_of-self
invariant_of-self g c =
    let v = view c.self.inside.seat in
    let w = view c.take_turn-taken.new.seat in
    let turn = c.take_turn-taken.ensures.turn in
    let counts = c.take_turn-taken.ensures.counts in
    let same = c.take_turn-taken.ensures.same in
    let alone = c.self.invariant.1 in
    let numbered = c.self.invariant.2 in
    let few = subst (λ (h : List (Entry Site BuildFault)). length h + 2 ≤ 2 ^ 62) (sym (ap (λ (h : HubSeen _). h.history) c.self.view_is)) c.requires.few in (
      c.take_turn-taken.ensures.own,
      record {
        name = same.name ∙ alone.name;
        out = same.out ∙ alone.out;
        kept = record {
          legal = subst (λ (h : List (Entry Site BuildFault)). IsLegal site_meaning opening h) (sym turn.1) (IsLegal-append site_meaning opening v.seen turn.0 alone.kept.legal turn.2.legal);
          idle = turn.2.idle;
        };
      },
      record {
        count_is = ap (λ n. n + c.take_turn-taken.result.entries) numbered.count_is ∙ sym counts.more;
        short = omega (arith, counts.more, counts.few, few);
        tally_is = c.with_request-self-inside.ensures ∙ ap (λ (t : Tally). with_request c.is_some.result t) numbered.tally_is ∙ ap (λ (b : Bool). with_request b (tally_of v.seen)) c.is_some.ensures ∙ sym counts.tally;
      },
    )

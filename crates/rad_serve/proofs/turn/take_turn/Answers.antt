use Rattle.std.proofs.Common.{ℕ, List, sym, ◌∙◌, subst}
use Rattle.rad_turn.specs.Sides.{view}
use Rattle.rad_core.specs.declared.started.Started.{Started}
use Rattle.rad_core.specs.declared.entry.Entry.{Entry}
use Rattle.rad_core.specs.declared.entry.Entry.TheVariants.{Start}
use Rattle.rad_core.specs.Behind.{TurnAdds}
use Rattle.rad_core.proofs.Behind.{alone_adds}
use Rattle.rad_policy.specs.Policy.{IsAuthenticUnder}
use Rattle.rad_policy.specs.Seen.{arrived_of, ending_seen, GivesOutcome}
use Rattle.rad_core.specs.Answers.{answer_seen, IsTicketOf, IsHeld}
use Rattle.rad_build.specs.declared.fault.BuildFault.{BuildFault}
use Rattle.rad_site.specs.Site.{Site}
use Rattle.rad_site.specs.Meaning.{site_meaning}
use Rattle.rad_serve.specs.History.{state_after}
use Rattle.rad_serve.proofs.Turns.{turn_at_once, counts_at_once, fits_at_once, turn_fresh, counts_fresh, is_held, authentic_at_place}
use Rattle.rad_serve.proofs.turn.take_turn.Goals as goal

pub returns-in-Err-clause-turn : goal.returns-in-Err-clause-turn
returns-in-Err-clause-turn g c =
    turn_at_once (view c.args.seat.now) (view c.start.new.seat) (arrived_of c.args.arrival.now) c.in-Ok.started c.start.new.reply c.in-Err.reply c.args.luck c.in-Err.ensures.other c.requires.alone c.in-Ok.ensures.had

pub returns-in-Err-clause-counts : goal.returns-in-Err-clause-counts
returns-in-Err-clause-counts g c =
    counts_at_once (view c.args.seat.now) (view c.start.new.seat) (arrived_of c.args.arrival.now) c.in-Ok.started c.start.new.reply c.in-Err.reply c.in-Err.ensures.other c.requires.alone c.in-Ok.ensures.had

pub returns-in-Err-clause-fits : goal.returns-in-Err-clause-fits
returns-in-Err-clause-fits g c =
    fits_at_once c.in-Ok.started c.args.buffer.now c.start.new.reply c.in-Err.reply c.in-Err.ensures.other c.in-Ok.ensures.buffer

pub access-outcome-requires-clause-authentic : goal.access-outcome-requires-clause-authentic
access-outcome-requires-clause-authentic g c =
    let arrival = arrived_of c.args.arrival.now in
    let v = view c.args.seat.now in
    let m = view c.start.new.seat in
    let mid = state_after m.seen in
    let ticket = subst (λ (s : Started Site). IsTicketOf mid s) c.in-Ok-ticket_of.ensures.fresh c.in-Ok.ensures.ticket in
    let adds = subst (λ (s : Started Site). TurnAdds site_meaning v m (Start arrival (answer_seen s c.start.new.reply))) c.in-Ok-ticket_of.ensures.fresh c.in-Ok.ensures.had in
    let step = (alone_adds site_meaning v m c.requires.alone.name c.requires.alone.out _ adds).1 in
    subst (λ (site : Site). IsAuthenticUnder site_meaning site arrival) (sym c.deref.ensures) (authentic_at_place (state_after v.seen) mid arrival c.in-Ok-ticket_of.ticket ticket.0 step)

pub finish-requires-clause-finds : goal.finish-requires-clause-finds
finish-requires-clause-finds g c =
    let arrival = arrived_of c.args.arrival.now in
    let v = view c.args.seat.now in
    let m = view c.start.new.seat in
    let old = state_after v.seen in
    let mid = state_after m.seen in
    let name = c.in-Ok.ensures.same.name ∙ c.requires.alone.name in
    let out = c.in-Ok.ensures.same.out ∙ c.requires.alone.out in
    let ticket = subst (λ (s : Started Site). IsTicketOf mid s) c.in-Ok-ticket_of.ensures.fresh c.in-Ok.ensures.ticket in
    let adds = subst (λ (s : Started Site). TurnAdds site_meaning v m (Start arrival (answer_seen s c.start.new.reply))) c.in-Ok-ticket_of.ensures.fresh c.in-Ok.ensures.had in
    let step = (alone_adds site_meaning v m c.requires.alone.name c.requires.alone.out _ adds).1 in
    let given = subst (λ (site : Site). GivesOutcome site_meaning site arrival c.in-Ok-ticket_of.ticket.moment c.args.luck c.access-outcome.result) c.deref.ensures c.access-outcome.ensures.outcome in
    λ log legal learns short.
    subst (λ (l : List (Entry Site BuildFault)). IsHeld site_meaning (state_after l) c.in-Ok-ticket_of.ticket m.name (ending_seen c.access-outcome.result)) (sym (learns.alone name out))
    (subst (λ (n : ℕ). IsHeld site_meaning mid c.in-Ok-ticket_of.ticket n (ending_seen c.access-outcome.result)) (c.requires.worker ∙ sym name)
    (is_held old mid arrival c.in-Ok-ticket_of.ticket c.args.luck c.access-outcome.result ticket.0 ticket.1 step given))

pub returns-in-Ok-finish-clause-turn : goal.returns-in-Ok-finish-clause-turn
returns-in-Ok-finish-clause-turn g c =
    let arrival = arrived_of c.args.arrival.now in
    let v = view c.args.seat.now in
    let m = view c.start.new.seat in
    let w = view c.finish.new.seat in
    let mid = state_after m.seen in
    let name = c.in-Ok.ensures.same.name ∙ c.requires.alone.name in
    let out = c.in-Ok.ensures.same.out ∙ c.requires.alone.out in
    let ticket = subst (λ (s : Started Site). IsTicketOf mid s) c.in-Ok-ticket_of.ensures.fresh c.in-Ok.ensures.ticket in
    let adds = subst (λ (s : Started Site). TurnAdds site_meaning v m (Start arrival (answer_seen s c.start.new.reply))) c.in-Ok-ticket_of.ensures.fresh c.in-Ok.ensures.had in
    let given = subst (λ (site : Site). GivesOutcome site_meaning site arrival c.in-Ok-ticket_of.ticket.moment c.args.luck c.access-outcome.result) c.deref.ensures c.access-outcome.ensures.outcome in
    turn_fresh v m w arrival c.in-Ok-ticket_of.ticket c.args.luck c.access-outcome.result c.copied-reply.result c.copied-reply.new.buffer c.requires.alone name out c.requires.worker adds ticket.0 ticket.1 given c.in-Ok-finish.ensures.had c.copied-reply.ensures.reply

pub returns-in-Ok-finish-clause-counts : goal.returns-in-Ok-finish-clause-counts
returns-in-Ok-finish-clause-counts g c =
    let arrival = arrived_of c.args.arrival.now in
    let v = view c.args.seat.now in
    let m = view c.start.new.seat in
    let w = view c.finish.new.seat in
    let name = c.in-Ok.ensures.same.name ∙ c.requires.alone.name in
    let out = c.in-Ok.ensures.same.out ∙ c.requires.alone.out in
    let adds = subst (λ (s : Started Site). TurnAdds site_meaning v m (Start arrival (answer_seen s c.start.new.reply))) c.in-Ok-ticket_of.ensures.fresh c.in-Ok.ensures.had in
    counts_fresh v m w arrival c.in-Ok-ticket_of.ticket c.args.luck c.access-outcome.result c.copied-reply.result c.copied-reply.new.buffer c.requires.alone name out adds c.in-Ok-finish.ensures.had c.copied-reply.ensures.reply

use Rattle.std.proofs.Common.{Bool, subst, sym}
use Rattle.std.specs.Option.{option_copied}
use Rattle.radclient.specs.Client.{closed, is_good}
use Rattle.radclient.specs.Seen.{Seen, Goes}
use Rattle.radclient.proofs.serving.end.Goals as goal

pub returns-in-Ok : goal.returns-in-Ok
returns-in-Ok g c = λ next wire wire_faults luck.
    let reply = option_copied c.args.reply in
    let before : Seen = record { wire = wire; wire_faults = wire_faults; luck = luck; out = g.O.Sink.told c.args.out.now; out_faults = g.O.Sink.faults c.args.out.now } in
    let now : Seen = record { wire = wire; wire_faults = wire_faults; luck = luck; out = g.O.Sink.told c.say_end.new.out; out_faults = g.O.Sink.faults c.say_end.new.out } in
    subst (λ (good : Bool). Goes (closed c.args.asked.now c.args.id next reply) (next good) before now) (sym c.is_good.ensures)
    (c.in-Ok.ensures (next (is_good reply)) wire wire_faults luck)

pub returns-in-Err : goal.returns-in-Err
returns-in-Err g c = λ next wire wire_faults luck. c.in-Err.ensures (next (is_good (option_copied c.args.reply))) wire wire_faults luck

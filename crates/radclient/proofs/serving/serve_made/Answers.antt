use Rattle.std.proofs.Common.{ℕ, List, Option, subst, sym}
use Rattle.std.specs.Option.{option_copied}
use Rattle.radclient.specs.Client.{closed, served}
use Rattle.radclient.specs.Seen.{Seen, Goes}
use Rattle.radclient.proofs.Reaching.{chained}
use Rattle.radclient.proofs.serving.serve_made.Goals as goal

pub returns-in-Ok : goal.returns-in-Ok
returns-in-Ok g c = λ next luck.
    let asked = c.args.asked.now in
    let id = c.args.id in
    let act = served asked id c.args.pairs.now.request c.args.request.now next in
    let before : Seen = record { wire = g.W.Wire.told c.args.wire.now; wire_faults = g.W.Wire.faults c.args.wire.now; luck = luck; out = g.O.Sink.told c.args.out.now; out_faults = g.O.Sink.faults c.args.out.now } in
    let mid : Seen = record { wire = g.W.Wire.told c.try_request.new.wire; wire_faults = g.W.Wire.faults c.try_request.new.wire; luck = luck; out = g.O.Sink.told c.try_request.new.out; out_faults = g.O.Sink.faults c.try_request.new.out } in
    let now : Seen = record { wire = g.W.Wire.told c.try_request.new.wire; wire_faults = g.W.Wire.faults c.try_request.new.wire; luck = luck; out = g.O.Sink.told c.end.new.out; out_faults = g.O.Sink.faults c.end.new.out } in
    let reply = option_copied c.front.result in
    chained act (closed asked id next reply) next before mid now c.end.result
    (subst (λ (r : Option (List ℕ)). Goes act (closed asked id next r) before mid) (sym c.front.ensures) (c.in-Ok.ensures.goes (closed asked id next) luck))
    (c.end.ensures next mid.wire mid.wire_faults luck)

pub returns-in-Err : goal.returns-in-Err
returns-in-Err g c = λ next luck. c.in-Err.ensures.goes (closed c.args.asked.now c.args.id next) luck

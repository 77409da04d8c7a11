use Rattle.radclient.specs.Seen.{Seen}
use Rattle.radclient.proofs.Packets.{next_act, next_goes, next_stops}
use Rattle.radclient.proofs.running.serve_next.Goals as goal

pub returns-in-Ok : goal.returns-in-Ok
returns-in-Ok g c = λ more.
    let before : Seen = record { wire = g.W.Wire.told c.args.wire.now; wire_faults = g.W.Wire.faults c.args.wire.now; luck = g.U.Luck.told c.args.luck.now; out = g.O.Sink.told c.args.out.now; out_faults = g.O.Sink.faults c.args.out.now } in
    let now : Seen = record { wire = g.W.Wire.told c.serve.new.wire; wire_faults = g.W.Wire.faults c.serve.new.wire; luck = g.U.Luck.told c.serve.new.luck; out = g.O.Sink.told c.serve.new.out; out_faults = g.O.Sink.faults c.serve.new.out } in
    let from = c.args.from in
    next_goes c.args.asked.now from.id from.bad c.args.pairs.now.request more before now c.in-Ok.good c.after.result.id c.after.result.bad c.after.ensures.id c.after.ensures.bad
    (c.in-Ok.ensures (next_act c.args.asked.now from.id from.bad more))

pub returns-in-Err : goal.returns-in-Err
returns-in-Err g c = λ more.
    let before : Seen = record { wire = g.W.Wire.told c.args.wire.now; wire_faults = g.W.Wire.faults c.args.wire.now; luck = g.U.Luck.told c.args.luck.now; out = g.O.Sink.told c.args.out.now; out_faults = g.O.Sink.faults c.args.out.now } in
    let now : Seen = record { wire = g.W.Wire.told c.serve.new.wire; wire_faults = g.W.Wire.faults c.serve.new.wire; luck = g.U.Luck.told c.serve.new.luck; out = g.O.Sink.told c.serve.new.out; out_faults = g.O.Sink.faults c.serve.new.out } in
    let from = c.args.from in
    next_stops c.args.asked.now from.id from.bad c.args.pairs.now.request more before now c.in-Err.stop (c.in-Err.ensures (next_act c.args.asked.now from.id from.bad more))

use Rattle.std.proofs.Common.{refl}
use Rattle.radclient.specs.Seen.{Seen}
use Rattle.radclient.proofs.Tries.{sent_whole, sent_badly}
use Rattle.radclient.proofs.sending.send.Goals as goal

pub returns-in-Ok : goal.returns-in-Ok
returns-in-Ok g c = λ next luck out out_faults.
    let before : Seen = record { wire = g.W.Wire.told c.args.wire.now; wire_faults = g.W.Wire.faults c.args.wire.now; luck = luck; out = out; out_faults = out_faults } in
    sent_whole c.args.asked.now.server c.args.request.now before (g.W.Wire.told c.send.new.self) (g.W.Wire.faults c.send.new.self) c.in-Ok.ensures.faults.later next c.in-Ok.ensures.told

pub returns-in-Err : goal.returns-in-Err
returns-in-Err g c = λ next luck out out_faults.
    let before : Seen = record { wire = g.W.Wire.told c.args.wire.now; wire_faults = g.W.Wire.faults c.args.wire.now; luck = luck; out = out; out_faults = out_faults } in
    (sent_badly c.args.asked.now.server c.args.request.now before (g.W.Wire.told c.send.new.self) (g.W.Wire.faults c.send.new.self) c.in-Err.ensures.faults.later next c.in-Err.ensures.told, c.in-Err.ensures.faults.cause refl)

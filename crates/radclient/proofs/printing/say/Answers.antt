use Rattle.std.proofs.Common.{refl}
use Rattle.radclient.specs.Seen.{Seen}
use Rattle.radclient.proofs.Printed.{said, cut_short}
use Rattle.radclient.proofs.printing.say.Goals as goal

pub returns-in-Ok : goal.returns-in-Ok
returns-in-Ok g c = λ next wire wire_faults luck.
    let before : Seen = record { wire = wire; wire_faults = wire_faults; luck = luck; out = g.O.Sink.told c.args.out.now; out_faults = g.O.Sink.faults c.args.out.now } in
    said c.args.lines.now next before (g.O.Sink.told c.write.new.self) (g.O.Sink.faults c.write.new.self) c.in-Ok.ensures.faults.later c.in-Ok.ensures.told

pub returns-in-Err : goal.returns-in-Err
returns-in-Err g c = λ next wire wire_faults luck.
    let before : Seen = record { wire = wire; wire_faults = wire_faults; luck = luck; out = g.O.Sink.told c.args.out.now; out_faults = g.O.Sink.faults c.args.out.now } in
    (cut_short c.args.lines.now next c.in-Err.field-0 before (g.O.Sink.told c.write.new.self) (g.O.Sink.faults c.write.new.self) c.in-Err.ensures.faults.later c.in-Err.ensures.told, c.in-Err.ensures.faults.cause refl)

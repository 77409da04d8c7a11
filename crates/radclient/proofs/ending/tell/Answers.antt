use Rattle.radclient.specs.Seen.{Seen}
use Rattle.radclient.proofs.Printed.{says_of}
use Rattle.radclient.proofs.ending.tell.Goals as goal

pub returns : goal.returns
returns g c = λ wire wire_faults luck.
    let before : Seen = record { wire = wire; wire_faults = wire_faults; luck = luck; out = g.O.Sink.told c.args.out.now; out_faults = g.O.Sink.faults c.args.out.now } in
    says_of c.args.lines.now c.write.result before (g.O.Sink.told c.write.new.self) (g.O.Sink.faults c.write.new.self) c.write.ensures.faults c.write.ensures.told

use Rattle.rad_outside.specs.Telling.{Rose}
use Rattle.rad_outside.proofs.Printings.{writes_front}
use Rattle.radiusd.proofs.printing.say.Goals as goal

pub returns-in-Ok-clause-printed : goal.returns-in-Ok-clause-printed
returns-in-Ok-clause-printed g c =
    writes_front (g.O.Sink.told c.args.out.now) (g.O.Sink.told c.write.new.self) c.args.line.now c.write.result (Rose (g.O.Sink.faults c.args.out.now) (g.O.Sink.faults c.write.new.self)) c.write.ensures.faults.cause c.write.ensures.told

pub returns-in-Err-clause-printed : goal.returns-in-Err-clause-printed
returns-in-Err-clause-printed g c =
    writes_front (g.O.Sink.told c.args.out.now) (g.O.Sink.told c.write.new.self) c.args.line.now c.write.result (Rose (g.O.Sink.faults c.args.out.now) (g.O.Sink.faults c.write.new.self)) c.write.ensures.faults.cause c.write.ensures.told

use Rattle.rad_outside.specs.Telling.{Rose}
use Rattle.rad_outside.proofs.Printings.{writes_front, writes_whole}
use Rattle.radwho.proofs.printing.say.Goals as goal

pub returns-clause-whole : goal.returns-clause-whole
returns-clause-whole g c =
    writes_whole (g.O.Sink.told c.args.out.now) (g.O.Sink.told c.write.new.self) c.args.lines.now c.write.result c.write.ensures.told

pub returns-clause-printed : goal.returns-clause-printed
returns-clause-printed g c =
    writes_front (g.O.Sink.told c.args.out.now) (g.O.Sink.told c.write.new.self) c.args.lines.now c.write.result (Rose (g.O.Sink.faults c.args.out.now) (g.O.Sink.faults c.write.new.self)) c.write.ensures.faults.cause c.write.ensures.told

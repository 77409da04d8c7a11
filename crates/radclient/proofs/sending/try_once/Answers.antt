use Rattle.std.proofs.Common.{ℕ, Option, take}
use Rattle.std.specs.Option.{option_map}
use Rattle.radclient.specs.Client.{awaited, sent_once}
use Rattle.radclient.specs.Lines.{sent_lines}
use Rattle.radclient.specs.Seen.{Seen}
use Rattle.radclient.proofs.Reaching.{chained}
use Rattle.radclient.proofs.sending.try_once.Goals as goal

pub returns-in-Ok-clause-goes : goal.returns-in-Ok-clause-goes
returns-in-Ok-clause-goes g c = λ next luck.
    let asked = c.args.asked.now in
    let before : Seen = record { wire = g.W.Wire.told c.args.wire.now; wire_faults = g.W.Wire.faults c.args.wire.now; luck = luck; out = g.O.Sink.told c.args.out.now; out_faults = g.O.Sink.faults c.args.out.now } in
    let mid : Seen = record { wire = g.W.Wire.told c.begin_try.new.wire; wire_faults = g.W.Wire.faults c.begin_try.new.wire; luck = luck; out = g.O.Sink.told c.begin_try.new.out; out_faults = g.O.Sink.faults c.begin_try.new.out } in
    let now : Seen = record { wire = g.W.Wire.told c.ask.new.wire; wire_faults = g.W.Wire.faults c.ask.new.wire; luck = luck; out = g.O.Sink.told c.begin_try.new.out; out_faults = g.O.Sink.faults c.begin_try.new.out } in
    let lines = sent_lines asked c.args.request.now c.args.pairs.now.request in
    let rest = awaited asked c.args.request.now asked.waits next in
    chained (sent_once asked c.args.request.now lines c.args.left rest) rest (λ (found : Option ℕ). next (option_map (λ (count : ℕ). take count c.ask.new.buffer) found)) before mid now c.ask.result
    (c.in-Ok.ensures rest luck) (c.ask.ensures.goes next luck mid.out mid.out_faults)

pub returns-in-Err-clause-goes : goal.returns-in-Err-clause-goes
returns-in-Err-clause-goes g c = λ next luck. c.in-Err.ensures (awaited c.args.asked.now c.args.request.now c.args.asked.now.waits next) luck

use Rattle.radclient.specs.Answers.{saying}
use Rattle.radclient.specs.Client.{lines_at, sent_once}
use Rattle.radclient.specs.Lines.{sent_lines, unless_quiet}
use Rattle.radclient.specs.Seen.{Seen}
use Rattle.radclient.proofs.Reaching.{chained}
use Rattle.radclient.proofs.sending.begin_try.Goals as goal

pub returns-in-Ok : goal.returns-in-Ok
returns-in-Ok g c = λ next luck.
    let asked = c.args.asked.now in
    let before : Seen = record { wire = g.W.Wire.told c.args.wire.now; wire_faults = g.W.Wire.faults c.args.wire.now; luck = luck; out = g.O.Sink.told c.args.out.now; out_faults = g.O.Sink.faults c.args.out.now } in
    let mid : Seen = record { wire = g.W.Wire.told c.send.new.wire; wire_faults = g.W.Wire.faults c.send.new.wire; luck = luck; out = g.O.Sink.told c.args.out.now; out_faults = g.O.Sink.faults c.args.out.now } in
    let now : Seen = record { wire = g.W.Wire.told c.send.new.wire; wire_faults = g.W.Wire.faults c.send.new.wire; luck = luck; out = g.O.Sink.told c.say_sent.new.out; out_faults = g.O.Sink.faults c.say_sent.new.out } in
    let lines = sent_lines asked c.args.request.now c.args.pairs.now.request in
    let rest = saying (unless_quiet asked (lines_at asked c.args.left lines)) next in
    chained (sent_once asked c.args.request.now lines c.args.left next) rest (λ _. next) before mid now c.say_sent.result
    (c.in-Ok.ensures rest luck before.out before.out_faults) (c.say_sent.ensures next mid.wire mid.wire_faults luck)

pub returns-in-Err : goal.returns-in-Err
returns-in-Err g c = λ next luck.
    let asked = c.args.asked.now in
    let lines = sent_lines asked c.args.request.now c.args.pairs.now.request in
    c.in-Err.ensures (saying (unless_quiet asked (lines_at asked c.args.left lines)) next) luck (g.O.Sink.told c.args.out.now) (g.O.Sink.faults c.args.out.now)

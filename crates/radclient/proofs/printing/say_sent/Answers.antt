use Rattle.radclient.specs.Answers.{saying}
use Rattle.radclient.specs.Client.{lines_at}
use Rattle.radclient.specs.Lines.{sent_lines, unless_quiet}
use Rattle.radclient.specs.Seen.{Seen}
use Rattle.std.proofs.lemmas.Bool.{ne_eqb}
use Rattle.radclient.proofs.Printed.{said_quietly, said_once}
use Rattle.radclient.proofs.Reaching.{CutOff-here}
use Rattle.radclient.proofs.printing.say_sent.Goals as goal

pub returns-then-asked : goal.returns-then-asked
returns-then-asked g c = λ next wire wire_faults luck.
    let asked = c.args.asked.now in
    let before : Seen = record { wire = wire; wire_faults = wire_faults; luck = luck; out = g.O.Sink.told c.args.out.now; out_faults = g.O.Sink.faults c.args.out.now } in
    said_quietly asked (lines_at asked c.args.left (sent_lines asked c.args.request.now c.args.pairs.now.request)) next before c.if-asked.true

pub returns-then-left-asked : goal.returns-then-left-asked
returns-then-left-asked g c = λ next wire wire_faults luck.
    let asked = c.args.asked.now in
    let before : Seen = record { wire = wire; wire_faults = wire_faults; luck = luck; out = g.O.Sink.told c.args.out.now; out_faults = g.O.Sink.faults c.args.out.now } in
    said_once asked c.args.left (sent_lines asked c.args.request.now c.args.pairs.now.request) next before c.if-asked.false (ne_eqb c.args.left asked.tries c.if-left-asked.true)

pub returns-in-Err : goal.returns-in-Err
returns-in-Err g c = λ next wire wire_faults luck.
    let asked = c.args.asked.now in
    let before : Seen = record { wire = wire; wire_faults = wire_faults; luck = luck; out = g.O.Sink.told c.args.out.now; out_faults = g.O.Sink.faults c.args.out.now } in
    CutOff-here (saying (unless_quiet asked (lines_at asked c.args.left (sent_lines asked c.args.request.now c.args.pairs.now.request))) next) before

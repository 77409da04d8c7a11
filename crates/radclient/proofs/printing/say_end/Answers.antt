use Rattle.std.proofs.Common.{◌∙◌}
use Rattle.std.specs.Option.{option_copied}
use Rattle.radclient.specs.Answers.{saying}
use Rattle.radclient.specs.Lines.{closing_lines, unless_quiet}
use Rattle.radclient.specs.Seen.{Seen}
use Rattle.radclient.proofs.Printed.{said_quietly, said_of, loudly}
use Rattle.radclient.proofs.Reaching.{CutOff-here}
use Rattle.radclient.proofs.printing.say_end.Goals as goal

pub returns-then-asked : goal.returns-then-asked
returns-then-asked g c = λ next wire wire_faults luck.
    let asked = c.args.asked.now in
    let before : Seen = record { wire = wire; wire_faults = wire_faults; luck = luck; out = g.O.Sink.told c.args.out.now; out_faults = g.O.Sink.faults c.args.out.now } in
    said_quietly asked (closing_lines asked c.args.id (option_copied c.args.reply)) next before c.if-asked.true

pub returns-in-Ok : goal.returns-in-Ok
returns-in-Ok g c = λ next wire wire_faults luck.
    let asked = c.args.asked.now in
    let before : Seen = record { wire = wire; wire_faults = wire_faults; luck = luck; out = g.O.Sink.told c.args.out.now; out_faults = g.O.Sink.faults c.args.out.now } in
    let now : Seen = record { wire = wire; wire_faults = wire_faults; luck = luck; out = g.O.Sink.told c.say.new.out; out_faults = g.O.Sink.faults c.say.new.out } in
    let lines = closing_lines asked c.args.id (option_copied c.args.reply) in
    said_of c.as_slice.result.now (unless_quiet asked lines) next before now c.say.result
    (c.as_slice.ensures.value ∙ c.in-Ok.ensures ∙ loudly asked lines c.if-asked.false) (c.say.ensures next wire wire_faults luck)

pub returns-in-Err : goal.returns-in-Err
returns-in-Err g c = λ next wire wire_faults luck.
    let asked = c.args.asked.now in
    let before : Seen = record { wire = wire; wire_faults = wire_faults; luck = luck; out = g.O.Sink.told c.args.out.now; out_faults = g.O.Sink.faults c.args.out.now } in
    CutOff-here (saying (unless_quiet asked (closing_lines asked c.args.id (option_copied c.args.reply))) next) before

use Rattle.std.proofs.Common.{List, ℕ, subst}
use Rattle.radclient.specs.Program.{Refuses, place_line}
use Rattle.radclient.specs.Seen.{Seen}
use Rattle.radclient.proofs.ending.refuse_file.Goals as goal

pub returns : goal.returns
returns g c = λ wire wire_faults luck.
    let before : Seen = record { wire = wire; wire_faults = wire_faults; luck = luck; out = g.O.Sink.told c.args.out.now; out_faults = g.O.Sink.faults c.args.out.now } in
    let now : Seen = record { wire = wire; wire_faults = wire_faults; luck = luck; out = g.O.Sink.told c.refuse_place.new.out; out_faults = g.O.Sink.faults c.refuse_place.new.out } in
    subst (λ (why : List ℕ). Refuses (place_line c.args.file.now c.args.fault.line why) before now c.refuse_place.result) c.reason_name.ensures (c.refuse_place.ensures wire wire_faults luck)

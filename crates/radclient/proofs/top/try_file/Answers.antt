use Rattle.std.proofs.Common.{List, ℕ, subst, refl}
use Rattle.radclient.specs.Program.{Served, Starving, Tail, Unread}
use Rattle.radclient.specs.Seen.{Seen}
use Rattle.radclient.specs.Words.{Line}
use Rattle.radclient.proofs.top.try_file.Goals as goal

pub returns-in-Ok-Some : goal.returns-in-Ok-Some
returns-in-Ok-Some g c = λ words is.
    let before : Seen = record { wire = g.W.Wire.told c.args.wire.now; wire_faults = g.W.Wire.faults c.args.wire.now; luck = g.U.Luck.told c.args.luck.now; out = g.O.Sink.told c.args.out.now; out_faults = g.O.Sink.faults c.args.out.now } in
    let now : Seen = record { wire = g.W.Wire.told c.try_octets.new.wire; wire_faults = g.W.Wire.faults c.try_octets.new.wire; luck = g.U.Luck.told c.try_octets.new.luck; out = g.O.Sink.told c.try_octets.new.out; out_faults = g.O.Sink.faults c.try_octets.new.out } in
    let line : Line = record { asked = c.args.asked.now; file = c.args.file.now } in
    Served line c.in-Ok-Some.octets c.try_octets.result is (rw c.in-Ok-Some.field-0-is at c.in-Ok-Some.ensures)
    (subst (λ (octets : List ℕ). Tail line.asked line.file octets before now c.try_octets.result) c.as_slice.ensures c.try_octets.ensures)

pub returns-in-Ok-None : goal.returns-in-Ok-None
returns-in-Ok-None g c = λ words is.
    let before : Seen = record { wire = g.W.Wire.told c.args.wire.now; wire_faults = g.W.Wire.faults c.args.wire.now; luck = g.U.Luck.told c.args.luck.now; out = g.O.Sink.told c.args.out.now; out_faults = g.O.Sink.faults c.args.out.now } in
    let line : Line = record { asked = c.args.asked.now; file = c.args.file.now } in
    Unread line is (rw c.in-Ok-None.field-0-is at c.in-Ok-None.ensures) (c.tell.ensures before.wire before.wire_faults before.luck)

pub returns-in-Err : goal.returns-in-Err
returns-in-Err g c = λ words is. Starving refl

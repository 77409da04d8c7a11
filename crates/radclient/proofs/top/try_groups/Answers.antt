use Rattle.std.proofs.Common.{List, subst, refl}
use Rattle.rad_value.specs.PairLists.{PairLists}
use Rattle.radclient.specs.Client.{client_run}
use Rattle.radclient.specs.Program.{Hungry, Ran, Tried, pairs_of_groups}
use Rattle.radclient.specs.Seen.{Seen}
use Rattle.radclient.proofs.Endings.{refused_tail}
use Rattle.radclient.proofs.top.try_groups.Goals as goal

pub returns-in-Ok : goal.returns-in-Ok
returns-in-Ok g c =
    let before : Seen = record { wire = g.W.Wire.told c.args.wire.now; wire_faults = g.W.Wire.faults c.args.wire.now; luck = g.U.Luck.told c.args.luck.now; out = g.O.Sink.told c.args.out.now; out_faults = g.O.Sink.faults c.args.out.now } in
    let now : Seen = record { wire = g.W.Wire.told c.try_packets.new.wire; wire_faults = g.W.Wire.faults c.try_packets.new.wire; luck = g.U.Luck.told c.try_packets.new.luck; out = g.O.Sink.told c.try_packets.new.out; out_faults = g.O.Sink.faults c.try_packets.new.out } in
    Tried c.in-Ok.groups.items c.try_packets.result c.in-Ok.ensures
    (subst (λ (groups : List PairLists). Ran (client_run c.args.asked.now (pairs_of_groups groups)) c.args.file.now before now c.try_packets.result) c.as_slice.ensures.value c.try_packets.ensures)

pub returns-in-Err-Wrong : goal.returns-in-Err-Wrong
returns-in-Err-Wrong g c =
    let before : Seen = record { wire = g.W.Wire.told c.args.wire.now; wire_faults = g.W.Wire.faults c.args.wire.now; luck = g.U.Luck.told c.args.luck.now; out = g.O.Sink.told c.args.out.now; out_faults = g.O.Sink.faults c.args.out.now } in
    let now : Seen = record before { out = g.O.Sink.told c.refuse_file.new.out; out_faults = g.O.Sink.faults c.refuse_file.new.out } in
    refused_tail c.args.asked.now c.args.file.now c.args.octets.now c.in-Err-Wrong.fault before now c.refuse_file.result
    (rw c.in-Err-Wrong.field-0-is at c.in-Err-Wrong.ensures) (c.refuse_file.ensures before.wire before.wire_faults before.luck)

pub returns-in-Err-NoMemory : goal.returns-in-Err-NoMemory
returns-in-Err-NoMemory g c = Hungry refl

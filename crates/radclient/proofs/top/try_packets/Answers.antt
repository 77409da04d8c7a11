use Rattle.radclient.specs.Client.{client_run}
use Rattle.radclient.specs.Program.{Broken, Starved, Unwritten, pairs_of_groups}
use Rattle.radclient.specs.Seen.{Seen}
use Rattle.radclient.proofs.Endings.{unmade_ran, verdict_ran}
use Rattle.radclient.proofs.top.try_packets.Goals as goal

pub returns-in-Ok : goal.returns-in-Ok
returns-in-Ok g c =
    let before : Seen = record { wire = g.W.Wire.told c.args.wire.now; wire_faults = g.W.Wire.faults c.args.wire.now; luck = g.U.Luck.told c.args.luck.now; out = g.O.Sink.told c.args.out.now; out_faults = g.O.Sink.faults c.args.out.now } in
    let mid : Seen = record { wire = g.W.Wire.told c.run.new.wire; wire_faults = g.W.Wire.faults c.run.new.wire; luck = g.U.Luck.told c.run.new.luck; out = g.O.Sink.told c.run.new.out; out_faults = g.O.Sink.faults c.run.new.out } in
    verdict_ran (client_run c.args.asked.now (pairs_of_groups c.args.groups.now)) c.args.file.now before mid c.in-Ok.bad c.verdict.result c.verdict.ensures c.in-Ok.ensures

pub returns-in-Err-Unmade : goal.returns-in-Err-Unmade
returns-in-Err-Unmade g c =
    let before : Seen = record { wire = g.W.Wire.told c.args.wire.now; wire_faults = g.W.Wire.faults c.args.wire.now; luck = g.U.Luck.told c.args.luck.now; out = g.O.Sink.told c.args.out.now; out_faults = g.O.Sink.faults c.args.out.now } in
    let mid : Seen = record { wire = g.W.Wire.told c.run.new.wire; wire_faults = g.W.Wire.faults c.run.new.wire; luck = g.U.Luck.told c.run.new.luck; out = g.O.Sink.told c.run.new.out; out_faults = g.O.Sink.faults c.run.new.out } in
    let now : Seen = record mid { out = g.O.Sink.told c.refuse_packet.new.out; out_faults = g.O.Sink.faults c.refuse_packet.new.out } in
    unmade_ran (client_run c.args.asked.now (pairs_of_groups c.args.groups.now)) c.args.file.now c.in-Err-Unmade.why before mid now c.refuse_packet.result
    (rw c.in-Err-Unmade.field-0-is at c.in-Err-Unmade.ensures) (c.refuse_packet.ensures mid.wire mid.wire_faults mid.luck)

pub returns-in-Err-SocketFault : goal.returns-in-Err-SocketFault
returns-in-Err-SocketFault g c =
    let mid : Seen = record { wire = g.W.Wire.told c.run.new.wire; wire_faults = g.W.Wire.faults c.run.new.wire; luck = g.U.Luck.told c.run.new.luck; out = g.O.Sink.told c.run.new.out; out_faults = g.O.Sink.faults c.run.new.out } in
    let stops = rw c.in-Err-SocketFault.field-0-is at c.in-Err-SocketFault.ensures in
    Broken mid stops.0 stops.1 (c.tell.ensures mid.wire mid.wire_faults mid.luck)

pub returns-in-Err-WriteFault : goal.returns-in-Err-WriteFault
returns-in-Err-WriteFault g c = let stops = rw c.in-Err-WriteFault.field-0-is at c.in-Err-WriteFault.ensures in Unwritten stops.0 stops.1

pub returns-in-Err-NoMemory : goal.returns-in-Err-NoMemory
returns-in-Err-NoMemory g c = Starved (rw c.in-Err-NoMemory.field-0-is at c.in-Err-NoMemory.ensures)

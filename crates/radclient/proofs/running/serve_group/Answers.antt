use Rattle.std.proofs.Common.{◌++◌, ◌-◌, List, replicate, refl, subst}
use Rattle.rad_value.specs.declared.values.Pair.{Pair}
use Rattle.radclient.specs.Client.{packets}
use Rattle.radclient.specs.Seen.{Seen, Goes, Stops}
use Rattle.radclient.proofs.Packets.{group_next}
use Rattle.radclient.proofs.Reaching.{Goes-same, Goes-trans, Stops-trans}
use Rattle.radclient.proofs.running.serve_group.Goals as goal

pub loop-left-init : goal.loop-left-init
loop-left-init g c = λ more.
    let before : Seen = record { wire = g.W.Wire.told c.args.wire.now; wire_faults = g.W.Wire.faults c.args.wire.now; luck = g.U.Luck.told c.args.luck.now; out = g.O.Sink.told c.args.out.now; out_faults = g.O.Sink.faults c.args.out.now } in
    let act = packets c.args.asked.now c.args.from.id c.args.from.bad (replicate c.args.asked.now.count c.args.pairs.now.request ++ more) in
    Goes-same act act before (λ come. refl)

pub loop-left-preserved : goal.loop-left-preserved
loop-left-preserved g c = λ more.
    let asked = c.args.asked.now in
    let pairs = c.args.pairs.now.request in
    let first : Seen = record { wire = g.W.Wire.told c.args.wire.now; wire_faults = g.W.Wire.faults c.args.wire.now; luck = g.U.Luck.told c.args.luck.now; out = g.O.Sink.told c.args.out.now; out_faults = g.O.Sink.faults c.args.out.now } in
    let before : Seen = record { wire = g.W.Wire.told c.loop-left.wire; wire_faults = g.W.Wire.faults c.loop-left.wire; luck = g.U.Luck.told c.loop-left.luck; out = g.O.Sink.told c.loop-left.out; out_faults = g.O.Sink.faults c.loop-left.out } in
    let now : Seen = record { wire = g.W.Wire.told c.serve_next.new.wire; wire_faults = g.W.Wire.faults c.serve_next.new.wire; luck = g.U.Luck.told c.serve_next.new.luck; out = g.O.Sink.told c.serve_next.new.out; out_faults = g.O.Sink.faults c.serve_next.new.out } in
    let at = c.loop-left.progress in
    let after = c.in-Ok.after in
    let rest = replicate (c.loop-left.left - 1) pairs ++ more in
    Goes-trans (packets asked c.args.from.id c.args.from.bad (replicate asked.count pairs ++ more)) (packets asked at.id at.bad (replicate c.loop-left.left pairs ++ more)) (packets asked after.id after.bad rest) first before now
    (c.loop-left.invariant more)
    (subst (λ (all : List (List Pair)). Goes (packets asked at.id at.bad all) (packets asked after.id after.bad rest) before now) (group_next c.loop-left.left pairs more c.loop-left-test.true) (c.in-Ok.ensures rest))

pub returns-in-Err : goal.returns-in-Err
returns-in-Err g c = λ more.
    let asked = c.args.asked.now in
    let pairs = c.args.pairs.now.request in
    let first : Seen = record { wire = g.W.Wire.told c.args.wire.now; wire_faults = g.W.Wire.faults c.args.wire.now; luck = g.U.Luck.told c.args.luck.now; out = g.O.Sink.told c.args.out.now; out_faults = g.O.Sink.faults c.args.out.now } in
    let before : Seen = record { wire = g.W.Wire.told c.loop-left.wire; wire_faults = g.W.Wire.faults c.loop-left.wire; luck = g.U.Luck.told c.loop-left.luck; out = g.O.Sink.told c.loop-left.out; out_faults = g.O.Sink.faults c.loop-left.out } in
    let now : Seen = record { wire = g.W.Wire.told c.serve_next.new.wire; wire_faults = g.W.Wire.faults c.serve_next.new.wire; luck = g.U.Luck.told c.serve_next.new.luck; out = g.O.Sink.told c.serve_next.new.out; out_faults = g.O.Sink.faults c.serve_next.new.out } in
    let at = c.loop-left.progress in
    let rest = replicate (c.loop-left.left - 1) pairs ++ more in
    Stops-trans (packets asked c.args.from.id c.args.from.bad (replicate asked.count pairs ++ more)) (packets asked at.id at.bad (replicate c.loop-left.left pairs ++ more)) c.in-Err.stop first before now
    (c.loop-left.invariant more)
    (subst (λ (all : List (List Pair)). Stops (packets asked at.id at.bad all) c.in-Err.stop before now) (group_next c.loop-left.left pairs more c.loop-left-test.true) (c.in-Err.ensures rest))

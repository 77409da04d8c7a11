use Rattle.std.proofs.Common.{◌+◌, List, drop, subst, sym, arith}
use Rattle.std.proofs.lemmas.List.{drop_all}
use Rattle.rad_value.specs.declared.values.Pair.{Pair}
use Rattle.radclient.specs.Answers.{Finished, ended}
use Rattle.radclient.specs.Client.{client_run, packets, repeated}
use Rattle.radclient.specs.Seen.{Seen, Goes, Stops}
use Rattle.radclient.proofs.Packets.{groups_end, groups_next, requests, run_begins}
use Rattle.radclient.proofs.Reaching.{Goes-trans, Stops-trans}
use Rattle.radclient.proofs.running.run.Goals as goal

pub loop-pairs-init : goal.loop-pairs-init
loop-pairs-init g c =
    let before : Seen = record { wire = g.W.Wire.told c.args.wire.now; wire_faults = g.W.Wire.faults c.args.wire.now; luck = g.U.Luck.told c.args.luck.now; out = g.O.Sink.told c.args.out.now; out_faults = g.O.Sink.faults c.args.out.now } in
    run_begins c.args.asked.now (requests c.args.groups.now) before

pub loop-pairs-preserved : goal.loop-pairs-preserved
loop-pairs-preserved g c =
    let asked = c.args.asked.now in
    let groups = c.args.groups.now in
    let first : Seen = record { wire = g.W.Wire.told c.args.wire.now; wire_faults = g.W.Wire.faults c.args.wire.now; luck = g.U.Luck.told c.args.luck.now; out = g.O.Sink.told c.args.out.now; out_faults = g.O.Sink.faults c.args.out.now } in
    let before : Seen = record { wire = g.W.Wire.told c.loop-pairs.wire; wire_faults = g.W.Wire.faults c.loop-pairs.wire; luck = g.U.Luck.told c.loop-pairs.luck; out = g.O.Sink.told c.loop-pairs.out; out_faults = g.O.Sink.faults c.loop-pairs.out } in
    let now : Seen = record { wire = g.W.Wire.told c.serve_group.new.wire; wire_faults = g.W.Wire.faults c.serve_group.new.wire; luck = g.U.Luck.told c.serve_group.new.luck; out = g.O.Sink.told c.serve_group.new.out; out_faults = g.O.Sink.faults c.serve_group.new.out } in
    let at = c.loop-pairs.progress in
    let after = c.in-Ok.after in
    let i = c.loop-pairs.pairs-index in
    let rest = repeated asked.count (requests (drop (i + 1) groups)) in
    Goes-trans (client_run asked (requests groups)) (packets asked at.id at.bad (repeated asked.count (requests (drop i groups)))) (packets asked after.id after.bad rest) first before now
    c.loop-pairs.invariant
    (subst (λ (all : List (List Pair)). Goes (packets asked at.id at.bad all) (packets asked after.id after.bad rest) before now)
    (sym (groups_next asked.count groups i c.pairs-item.result c.loop-pairs-test.true c.pairs-item.is)) (c.in-Ok.ensures rest))

pub returns-in-Err : goal.returns-in-Err
returns-in-Err g c =
    let asked = c.args.asked.now in
    let groups = c.args.groups.now in
    let first : Seen = record { wire = g.W.Wire.told c.args.wire.now; wire_faults = g.W.Wire.faults c.args.wire.now; luck = g.U.Luck.told c.args.luck.now; out = g.O.Sink.told c.args.out.now; out_faults = g.O.Sink.faults c.args.out.now } in
    let before : Seen = record { wire = g.W.Wire.told c.loop-pairs.wire; wire_faults = g.W.Wire.faults c.loop-pairs.wire; luck = g.U.Luck.told c.loop-pairs.luck; out = g.O.Sink.told c.loop-pairs.out; out_faults = g.O.Sink.faults c.loop-pairs.out } in
    let now : Seen = record { wire = g.W.Wire.told c.serve_group.new.wire; wire_faults = g.W.Wire.faults c.serve_group.new.wire; luck = g.U.Luck.told c.serve_group.new.luck; out = g.O.Sink.told c.serve_group.new.out; out_faults = g.O.Sink.faults c.serve_group.new.out } in
    let at = c.loop-pairs.progress in
    let i = c.loop-pairs.pairs-index in
    let rest = repeated asked.count (requests (drop (i + 1) groups)) in
    Stops-trans (client_run asked (requests groups)) (packets asked at.id at.bad (repeated asked.count (requests (drop i groups)))) c.in-Err.stop first before now
    c.loop-pairs.invariant
    (subst (λ (all : List (List Pair)). Stops (packets asked at.id at.bad all) c.in-Err.stop before now)
    (sym (groups_next asked.count groups i c.pairs-item.result c.loop-pairs-test.true c.pairs-item.is)) (c.in-Err.ensures rest))

pub returns : goal.returns
returns g c = let a = c.loop-pairs-test.false in let b = c.loop-pairs.auto in
    let asked = c.args.asked.now in
    let groups = c.args.groups.now in
    let first : Seen = record { wire = g.W.Wire.told c.args.wire.now; wire_faults = g.W.Wire.faults c.args.wire.now; luck = g.U.Luck.told c.args.luck.now; out = g.O.Sink.told c.args.out.now; out_faults = g.O.Sink.faults c.args.out.now } in
    let before : Seen = record { wire = g.W.Wire.told c.loop-pairs.wire; wire_faults = g.W.Wire.faults c.loop-pairs.wire; luck = g.U.Luck.told c.loop-pairs.luck; out = g.O.Sink.told c.loop-pairs.out; out_faults = g.O.Sink.faults c.loop-pairs.out } in
    let at = c.loop-pairs.progress in
    let i = c.loop-pairs.pairs-index in
    Goes-trans (client_run asked (requests groups)) (packets asked at.id at.bad (repeated asked.count (requests (drop i groups)))) (ended (Finished at.bad)) first before before
    c.loop-pairs.invariant (groups_end asked at.id at.bad groups i before (drop_all i groups (omega arith)))

use Rattle.std.proofs.Common.{◌++◌, List, replicate}
use Rattle.rad_value.specs.declared.values.Pair.{Pair}
use Rattle.radclient.specs.Client.{packets}
use Rattle.radclient.specs.Seen.{Seen, Goes}
use Rattle.radclient.proofs.running.serve_group.Given as goal

-- the packets of the group so far were served, and so many are left
abbrev pub invariant-loop-left : goal.invariant-loop-left
invariant-loop-left g l = (more : List (List Pair)) →
    let before : Seen = record { wire = g.W.Wire.told l.fn.wire; wire_faults = g.W.Wire.faults l.fn.wire; luck = g.U.Luck.told l.fn.luck; out = g.O.Sink.told l.fn.out; out_faults = g.O.Sink.faults l.fn.out } in
    let now : Seen = record { wire = g.W.Wire.told l.wire; wire_faults = g.W.Wire.faults l.wire; luck = g.U.Luck.told l.luck; out = g.O.Sink.told l.out; out_faults = g.O.Sink.faults l.out } in
    Goes (packets l.asked l.fn.from.id l.fn.from.bad (replicate l.asked.count l.pairs.request ++ more)) (packets l.asked l.progress.id l.progress.bad (replicate l.left l.pairs.request ++ more)) before now

abbrev pub decreases-loop-left : goal.decreases-loop-left
decreases-loop-left g l = l.left

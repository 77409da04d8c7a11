use Rattle.std.proofs.Common.{map, drop}
use Rattle.rad_value.specs.PairLists.{PairLists}
use Rattle.radclient.specs.Client.{client_run, packets, repeated}
use Rattle.radclient.specs.Seen.{Seen, Goes}
use Rattle.radclient.proofs.running.run.Given as goal

-- the groups so far were served, and the others are left
abbrev pub invariant-loop-pairs : goal.invariant-loop-pairs
invariant-loop-pairs g l =
    let before : Seen = record { wire = g.W.Wire.told l.fn.wire; wire_faults = g.W.Wire.faults l.fn.wire; luck = g.U.Luck.told l.fn.luck; out = g.O.Sink.told l.fn.out; out_faults = g.O.Sink.faults l.fn.out } in
    let now : Seen = record { wire = g.W.Wire.told l.wire; wire_faults = g.W.Wire.faults l.wire; luck = g.U.Luck.told l.luck; out = g.O.Sink.told l.out; out_faults = g.O.Sink.faults l.out } in
    Goes (client_run l.asked (map (λ (p : PairLists). p.request) l.groups))
    (packets l.asked l.progress.id l.progress.bad (repeated l.asked.count (map (λ (p : PairLists). p.request) (drop l.pairs-index l.groups)))) before now

use Rattle.std.proofs.Common.{◌≡◌, ℕ, List, Option, length}
use Rattle.radclient.specs.Answers.{Act}
use Rattle.radclient.specs.Client.{awaited}
use Rattle.radclient.specs.Seen.{Seen, Goes}
use Rattle.radclient.proofs.asking.ask.Given as goal

-- the answers so far were no reply, and so many are left to be waited for
abbrev pub invariant-loop-left : goal.invariant-loop-left
invariant-loop-left g l = record {
  goes : (next : Option (List ℕ) → Act) (luck out : Option (List ℕ)) (out_faults : ℕ) →
      let before : Seen = record { wire = g.W.Wire.told l.fn.wire; wire_faults = g.W.Wire.faults l.fn.wire; luck = luck; out = out; out_faults = out_faults } in
      let now : Seen = record { wire = g.W.Wire.told l.wire; wire_faults = g.W.Wire.faults l.wire; luck = luck; out = out; out_faults = out_faults } in
      Goes (awaited l.asked l.request l.asked.waits next) (awaited l.asked l.request l.left next) before now;
  long : length l.buffer ≡ 4096;
}

abbrev pub decreases-loop-left : goal.decreases-loop-left
decreases-loop-left g l = l.left

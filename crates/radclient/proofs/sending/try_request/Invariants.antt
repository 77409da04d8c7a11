use Rattle.std.proofs.Common.{◌≡◌, ℕ, List, Option, length}
use Rattle.radclient.specs.Answers.{Act}
use Rattle.radclient.specs.Client.{tried}
use Rattle.radclient.specs.Lines.{sent_lines}
use Rattle.radclient.specs.Seen.{Seen, Goes}
use Rattle.radclient.proofs.sending.try_request.Given as goal

-- the sends so far brought no reply, and the request may be sent so often more
abbrev pub invariant-loop-left : goal.invariant-loop-left
invariant-loop-left g l = record {
  goes : (next : Option (List ℕ) → Act) (luck : Option (List ℕ)) →
      let before : Seen = record { wire = g.W.Wire.told l.fn.wire; wire_faults = g.W.Wire.faults l.fn.wire; luck = luck; out = g.O.Sink.told l.fn.out; out_faults = g.O.Sink.faults l.fn.out } in
      let now : Seen = record { wire = g.W.Wire.told l.wire; wire_faults = g.W.Wire.faults l.wire; luck = luck; out = g.O.Sink.told l.out; out_faults = g.O.Sink.faults l.out } in
      let lines = sent_lines l.asked l.request l.pairs.request in
      Goes (tried l.asked l.request lines l.asked.tries next) (tried l.asked l.request lines l.left next) before now;
  long : length l.buffer ≡ 4096;
}

abbrev pub decreases-loop-left : goal.decreases-loop-left
decreases-loop-left g l = l.left

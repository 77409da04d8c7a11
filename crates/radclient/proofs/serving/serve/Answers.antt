use Rattle.std.proofs.Common.{ℕ, List, subst, sym}
use Rattle.radclient.specs.Client.{packet, served}
use Rattle.radclient.specs.Seen.{Seen, Goes}
use Rattle.radclient.proofs.Reaching.{chained}
use Rattle.radclient.proofs.serving.serve.Goals as goal

pub returns-in-Ok : goal.returns-in-Ok
returns-in-Ok g c = λ next.
    let asked = c.args.asked.now in
    let id = c.args.id in
    let pairs = c.args.pairs.now.request in
    let before : Seen = record { wire = g.W.Wire.told c.args.wire.now; wire_faults = g.W.Wire.faults c.args.wire.now; luck = g.U.Luck.told c.args.luck.now; out = g.O.Sink.told c.args.out.now; out_faults = g.O.Sink.faults c.args.out.now } in
    let mid : Seen = record { wire = before.wire; wire_faults = before.wire_faults; luck = g.U.Luck.told c.make.new.luck; out = before.out; out_faults = before.out_faults } in
    let now : Seen = record { wire = g.W.Wire.told c.serve_made.new.wire; wire_faults = g.W.Wire.faults c.serve_made.new.wire; luck = mid.luck; out = g.O.Sink.told c.serve_made.new.out; out_faults = g.O.Sink.faults c.serve_made.new.out } in
    let request = c.as_slice.result.now in
    chained (packet asked id pairs next) (served asked id pairs request next) next before mid now c.serve_made.result
    (subst (λ (r : List ℕ). Goes (packet asked id pairs next) (served asked id pairs r next) before mid) (sym c.as_slice.ensures) (c.in-Ok.ensures.goes next before.wire before.wire_faults before.out before.out_faults))
    (c.serve_made.ensures next mid.luck)

use Rattle.std.proofs.Common.{◌≡◌, ℕ, ◌-◌, take, List, None, Some, refl, sym, ◌∙◌, subst, ◌&&◌, true, false}
use Rattle.std.proofs.lemmas.Bool.{and_parts}
use Rattle.rad_outside.specs.declared.wire.Heard.TheVariants as heard
use Rattle.radclient.specs.Client.{awaited}
use Rattle.radclient.specs.Judging.{is_accepted, is_peer}
use Rattle.radclient.specs.Seen.{Seen}
use Rattle.radclient.specs.declared.stop.Stop.TheVariants as stop
use Rattle.radclient.proofs.Accepting.{accepted_yes}
use Rattle.radclient.proofs.Awaiting.{after_ask, heard_reply, heard_other, heard_broken, judged_reply, judged_other, awaited_none}
use Rattle.radclient.proofs.Reaching.{Goes-same, Goes-trans, Stops-trans}
use Rattle.radclient.proofs.asking.ask.Goals as goal
use Rattle.radclient.proofs.asking.ask.Goals.{in-Datagram+else-is_reply, in-Quiet, in-Ended}

pub loop-left-init : goal.loop-left-init
loop-left-init g c = record {
  goes = λ next luck out out_faults.
      let act = awaited c.args.asked.now c.args.request.now c.args.asked.now.waits next in
      let before : Seen = record { wire = g.W.Wire.told c.args.wire.now; wire_faults = g.W.Wire.faults c.args.wire.now; luck = luck; out = out; out_faults = out_faults } in
      Goes-same act act before (λ come. refl);
  long = c.told-buffer;
}

pub returns-then-is_reply-clause-goes : goal.returns-then-is_reply-clause-goes
returns-then-is_reply-clause-goes g c = λ next luck out out_faults.
    let asked = c.args.asked.now in
    let request = c.args.request.now in
    let first : Seen = record { wire = g.W.Wire.told c.args.wire.now; wire_faults = g.W.Wire.faults c.args.wire.now; luck = luck; out = out; out_faults = out_faults } in
    let before : Seen = record { wire = g.W.Wire.told c.loop-left.wire; wire_faults = g.W.Wire.faults c.loop-left.wire; luck = luck; out = out; out_faults = out_faults } in
    let told = g.W.Wire.told c.recv.new.self in
    let faults = g.W.Wire.faults c.recv.new.self in
    let octets = take c.in-Datagram.count c.recv.new.buffer in
    let from = c.in-Datagram.from in
    let is : (is_peer from asked.server && is_accepted request octets asked.secret) ≡ true =
    subst (λ (o : List ℕ). (is_peer from asked.server && is_accepted request o asked.secret) ≡ true) c.split_at.ensures.front (sym c.is_reply.ensures ∙ c.if-is_reply.true) in
    let left = c.loop-left.left in
    Goes-trans (awaited asked request asked.waits next) (awaited asked request left next) (next (Some octets)) first before (after_ask before told faults)
    (c.loop-left.invariant.goes next luck out out_faults)
    (heard_reply asked request next before told faults c.in-Datagram.ensures.faults.later (heard.Datagram octets from) c.in-Datagram.ensures.told left octets c.loop-left-test.true (judged_reply asked request octets from is))

pub returns-then-is_reply-clause-accepted : goal.returns-then-is_reply-clause-accepted
returns-then-is_reply-clause-accepted g c =
    let asked = c.args.asked.now in
    let request = c.args.request.now in
    let octets = take c.in-Datagram.count c.recv.new.buffer in
    let from = c.in-Datagram.from in
    let is : (is_peer from asked.server && is_accepted request octets asked.secret) ≡ true =
    subst (λ (o : List ℕ). (is_peer from asked.server && is_accepted request o asked.secret) ≡ true) c.split_at.ensures.front (sym c.is_reply.ensures ∙ c.if-is_reply.true) in
    (c.in-Datagram.ensures.bound, accepted_yes request octets asked.secret (and_parts (is_peer from asked.server) (is_accepted request octets asked.secret) is).1)

pub returns-in-Failed-clause-goes : goal.returns-in-Failed-clause-goes
returns-in-Failed-clause-goes g c = λ next luck out out_faults.
    let asked = c.args.asked.now in
    let request = c.args.request.now in
    let first : Seen = record { wire = g.W.Wire.told c.args.wire.now; wire_faults = g.W.Wire.faults c.args.wire.now; luck = luck; out = out; out_faults = out_faults } in
    let before : Seen = record { wire = g.W.Wire.told c.loop-left.wire; wire_faults = g.W.Wire.faults c.loop-left.wire; luck = luck; out = out; out_faults = out_faults } in
    let told = g.W.Wire.told c.recv.new.self in
    let faults = g.W.Wire.faults c.recv.new.self in
    let left = c.loop-left.left in
    Stops-trans (awaited asked request asked.waits next) (awaited asked request left next) stop.SocketFault first before (after_ask before told faults)
    (c.loop-left.invariant.goes next luck out out_faults)
    (heard_broken asked request next before told faults c.in-Failed.ensures.faults.later heard.Failed c.in-Failed.ensures.told left c.loop-left-test.true refl, c.in-Failed.ensures.faults.cause refl)

pub loop-left-preserved : goal.loop-left-preserved
loop-left-preserved g c = record {
  goes = λ next luck out out_faults.
      let asked = c.args.asked.now in
      let request = c.args.request.now in
      let first : Seen = record { wire = g.W.Wire.told c.args.wire.now; wire_faults = g.W.Wire.faults c.args.wire.now; luck = luck; out = out; out_faults = out_faults } in
      let before : Seen = record { wire = g.W.Wire.told c.loop-left.wire; wire_faults = g.W.Wire.faults c.loop-left.wire; luck = luck; out = out; out_faults = out_faults } in
      let told = g.W.Wire.told c.recv.new.self in
      let faults = g.W.Wire.faults c.recv.new.self in
      let left = c.loop-left.left in
      Goes-trans (awaited asked request asked.waits next) (awaited asked request left next) (awaited asked request (left - 1) next) first before (after_ask before told faults)
      (c.loop-left.invariant.goes next luck out out_faults)
      (elim c.match-recv.branch [
        | in-Datagram+else-is_reply w ↦
            let octets = take w.in-Datagram.count c.recv.new.buffer in
            let from = w.in-Datagram.from in
            let is : (is_peer from asked.server && is_accepted request octets asked.secret) ≡ false =
            subst (λ (o : List ℕ). (is_peer from asked.server && is_accepted request o asked.secret) ≡ false) w.split_at.ensures.front (sym w.is_reply.ensures ∙ w.if-is_reply.false) in
            heard_other asked request next before told faults c.recv.ensures.faults.later (heard.Datagram octets from) w.in-Datagram.ensures.told left c.loop-left-test.true (judged_other asked request octets from is)
        | in-Quiet w ↦ heard_other asked request next before told faults c.recv.ensures.faults.later heard.Quiet w.in-Quiet.ensures.told left c.loop-left-test.true refl
        | in-Ended w ↦ heard_other asked request next before told faults c.recv.ensures.faults.later heard.Ended w.in-Ended.ensures.told left c.loop-left-test.true refl
      ]);
  long = c.recv.ensures.buffer;
}

pub returns-clause-goes : goal.returns-clause-goes
returns-clause-goes g c = λ next luck out out_faults.
    let asked = c.args.asked.now in
    let request = c.args.request.now in
    let first : Seen = record { wire = g.W.Wire.told c.args.wire.now; wire_faults = g.W.Wire.faults c.args.wire.now; luck = luck; out = out; out_faults = out_faults } in
    let now : Seen = record { wire = g.W.Wire.told c.loop-left.wire; wire_faults = g.W.Wire.faults c.loop-left.wire; luck = luck; out = out; out_faults = out_faults } in
    Goes-trans (awaited asked request asked.waits next) (awaited asked request c.loop-left.left next) (next None) first now now
    (c.loop-left.invariant.goes next luck out out_faults)
    (Goes-same (awaited asked request c.loop-left.left next) (next None) now (awaited_none asked request next c.loop-left.left c.loop-left-test.false))

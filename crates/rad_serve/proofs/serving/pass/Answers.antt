use Rattle.std.proofs.Common.{ℕ, List, [], Some, None, take, not, subst, ap, refl, arith}
use Rattle.rad_outside.specs.declared.crew.Kit.{Kit}
use Rattle.rad_outside.specs.declared.wire.Heard.TheVariants as heard
use Rattle.rad_serve.specs.declared.left.Left.TheVariants as leaving
use Rattle.rad_serve.specs.Told.{KitTells}
use Rattle.rad_serve.specs.History.{state_after}
use Rattle.rad_serve.specs.Leaving.{HearsLast}
use Rattle.rad_serve.specs.Serving.{Serves}
use Rattle.rad_outside.proofs.Tellings.{Tells-weaker}
use Rattle.rad_serve.proofs.Leavings.{unasked}
use Rattle.rad_serve.proofs.Passes.{open_after, goes_on_idly, goes_on_still, goes_on_served, goes_on_look, goes_on_stop}
use Rattle.rad_serve.proofs.serving.pass.Goals as goal

pub returns-then-not-has_turns-clause-goes_on : goal.returns-then-not-has_turns-clause-goes_on
returns-then-not-has_turns-clause-goes_on g c =
    let tells : KitTells g.row.W.Denot g.row.K.Denot g.row.U.Denot = record { wire = g.W.Wire.told; clock = g.K.Clock.told; luck = g.U.Luck.told; failures = g.W.Wire.failures_in_a_row; has_ended = g.W.Wire.has_ended } in
    (goes_on_still tells 0 c.args.listen.now c.args.hub.now.history c.args.kit.now (Some leaving.Worn) (tt, unasked tells c.args.kit.now.wire) (λ e. cc) (λ e. c.if-not-has_turns.ensures))

pub returns-in-Datagram-clause-goes_on : goal.returns-in-Datagram-clause-goes_on
returns-in-Datagram-clause-goes_on g c =
    let tells : KitTells g.row.W.Denot g.row.K.Denot g.row.U.Denot = record { wire = g.W.Wire.told; clock = g.K.Clock.told; luck = g.U.Luck.told; failures = g.W.Wire.failures_in_a_row; has_ended = g.W.Wire.has_ended } in
    let mid : Kit g.row.W.Denot g.row.S.Denot g.row.K.Denot g.row.U.Denot g.row.G.Denot = record c.args.kit.now { wire = c.recv.new.self } in
    let octets = take c.in-Datagram.count c.recv.new.buffer in
    let after = c.serve_datagram.new.hub.history in
    let new = c.serve_datagram.new.kit in
    let serves = subst (λ (o : List ℕ). Serves tells 0 c.args.listen.now c.args.hub.now.history after mid new c.in-Datagram.from o) c.split_at.ensures.front c.serve_datagram.ensures.serves in
    (goes_on_served tells 0 c.args.listen.now c.args.hub.now.history after c.args.kit.now mid new c.in-Datagram.from octets (record { listener = refl; clock = refl; luck = refl; shelf = refl }) c.in-Datagram.ensures.told serves)

pub returns-then-seen-clause-goes_on : goal.returns-then-seen-clause-goes_on
returns-then-seen-clause-goes_on g c =
    let tells : KitTells g.row.W.Denot g.row.K.Denot g.row.U.Denot = record { wire = g.W.Wire.told; clock = g.K.Clock.told; luck = g.U.Luck.told; failures = g.W.Wire.failures_in_a_row; has_ended = g.W.Wire.has_ended } in
    let new : Kit g.row.W.Denot g.row.S.Denot g.row.K.Denot g.row.U.Denot g.row.G.Denot = record c.args.kit.now { wire = c.recv.new.self } in
    (goes_on_look tells 0 c.args.listen.now c.args.hub.now.history c.look-seen.new.self.history c.args.kit.now new c.look-seen.result (Some leaving.Stopped)
    (record { listener = refl; clock = refl; luck = refl; shelf = refl }) c.in-Quiet.ensures.told c.look-seen.ensures.added (
      record { front = []; before = state_after c.args.hub.now.history; worker = 0; seen = c.look-seen.result; last = refl; shows = c.if-seen.true; only = tt },
      Tells-weaker (HearsLast heard.Quiet) (tells.wire c.args.kit.now.wire) (tells.wire c.recv.new.self) (λ x y h. ([], h.0, tt)) c.in-Quiet.ensures.told,
    )
    (λ e. c.if-seen.true) (λ e. cc))

pub returns-else-seen-clause-goes_on : goal.returns-else-seen-clause-goes_on
returns-else-seen-clause-goes_on g c =
    let tells : KitTells g.row.W.Denot g.row.K.Denot g.row.U.Denot = record { wire = g.W.Wire.told; clock = g.K.Clock.told; luck = g.U.Luck.told; failures = g.W.Wire.failures_in_a_row; has_ended = g.W.Wire.has_ended } in
    let new : Kit g.row.W.Denot g.row.S.Denot g.row.K.Denot g.row.U.Denot g.row.G.Denot = record c.args.kit.now { wire = c.recv.new.self } in
    (goes_on_look tells 0 c.args.listen.now c.args.hub.now.history c.look-seen.new.self.history c.args.kit.now new c.look-seen.result None
    (record { listener = refl; clock = refl; luck = refl; shelf = refl }) c.in-Quiet.ensures.told c.look-seen.ensures.added
    ((ap not c.if-seen.false, tt), open_after tells c.args.kit.now.wire c.recv.new.self heard.Quiet tt c.in-Quiet.ensures.told) (λ e. cc) (λ e. cc))

pub returns-then-failures-lt-DEAF-clause-goes_on : goal.returns-then-failures-lt-DEAF-clause-goes_on
returns-then-failures-lt-DEAF-clause-goes_on g c =
    let tells : KitTells g.row.W.Denot g.row.K.Denot g.row.U.Denot = record { wire = g.W.Wire.told; clock = g.K.Clock.told; luck = g.U.Luck.told; failures = g.W.Wire.failures_in_a_row; has_ended = g.W.Wire.has_ended } in
    let new : Kit g.row.W.Denot g.row.S.Denot g.row.K.Denot g.row.U.Denot g.row.G.Denot = record c.args.kit.now { wire = c.recv.new.self } in
    (goes_on_idly tells 0 c.args.listen.now c.args.hub.now.history c.args.kit.now new heard.Failed None (record { listener = refl; clock = refl; luck = refl; shelf = refl }) c.in-Failed.ensures.told refl
    (tt, open_after tells c.args.kit.now.wire c.recv.new.self heard.Failed tt c.in-Failed.ensures.told) (λ e. cc) (λ e. cc))

pub returns-else-failures-lt-DEAF-clause-goes_on : goal.returns-else-failures-lt-DEAF-clause-goes_on
returns-else-failures-lt-DEAF-clause-goes_on g c =
    let tells : KitTells g.row.W.Denot g.row.K.Denot g.row.U.Denot = record { wire = g.W.Wire.told; clock = g.K.Clock.told; luck = g.U.Luck.told; failures = g.W.Wire.failures_in_a_row; has_ended = g.W.Wire.has_ended } in
    let new : Kit g.row.W.Denot g.row.S.Denot g.row.K.Denot g.row.U.Denot g.row.G.Denot = record c.args.kit.now { wire = c.recv.new.self } in
    (goes_on_stop tells 0 c.args.listen.now c.args.hub.now.history c.stop.new.self.history c.args.kit.now new (Some leaving.Deaf)
    (record { listener = refl; clock = refl; luck = refl; shelf = refl }) c.in-Failed.ensures.told c.stop.ensures.added
    (record { front = []; before = state_after c.args.hub.now.history; worker = 0; last = refl; only = tt }, omega (arith, c.in-Failed.ensures.row, c.requires.counted), open_after tells c.args.kit.now.wire c.recv.new.self heard.Failed tt c.in-Failed.ensures.told)
    (λ e. cc) (λ e. cc))

pub returns-in-Ended-clause-goes_on : goal.returns-in-Ended-clause-goes_on
returns-in-Ended-clause-goes_on g c =
    let tells : KitTells g.row.W.Denot g.row.K.Denot g.row.U.Denot = record { wire = g.W.Wire.told; clock = g.K.Clock.told; luck = g.U.Luck.told; failures = g.W.Wire.failures_in_a_row; has_ended = g.W.Wire.has_ended } in
    let new : Kit g.row.W.Denot g.row.S.Denot g.row.K.Denot g.row.U.Denot g.row.G.Denot = record c.args.kit.now { wire = c.recv.new.self } in
    (goes_on_idly tells 0 c.args.listen.now c.args.hub.now.history c.args.kit.now new heard.Ended (Some leaving.Ended) (record { listener = refl; clock = refl; luck = refl; shelf = refl }) c.in-Ended.ensures.told refl
    (tt, c.in-Ended.ensures.end.stays (c.in-Ended.ensures.end.only refl), Tells-weaker (HearsLast heard.Ended) (tells.wire c.args.kit.now.wire) (tells.wire c.recv.new.self) (λ x y h. ([], h.0, tt)) c.in-Ended.ensures.told)
    (λ e. cc) (λ e. cc))

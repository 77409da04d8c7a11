use Rattle.std.proofs.Common.{None, Some, refl, ◌∙◌, ◌≡◌, ◌<◌, arith}
use Rattle.rad_serve.specs.Told.{KitTells}
use Rattle.rad_serve.proofs.Leavings.{unasked}
use Rattle.rad_serve.proofs.Passes.{goes_on_still, GoesOn-trans}
use Rattle.rad_serve.proofs.serving.serve.Goals as goal

pub loop-init : goal.loop-init
loop-init g c =
    let tells : KitTells g.row.W.Denot g.row.K.Denot g.row.U.Denot = record { wire = g.W.Wire.told; clock = g.K.Clock.told; luck = g.U.Luck.told; failures = g.W.Wire.failures_in_a_row; has_ended = g.W.Wire.has_ended } in
    let counted : 0 ≡ g.W.Wire.failures_in_a_row c.args.kit.now.wire = cc in
    let few : 0 < 100 = omega arith in
    record {
      goes_on = goes_on_still tells 0 c.args.listen.now c.args.hub.now.history c.args.kit.now None (tt, unasked tells c.args.kit.now.wire) (λ e. cc) (λ e. cc);
      counted = counted;
      few = few;
      origin = refl;
    }

pub loop-preserved : goal.loop-preserved
loop-preserved g c =
    let tells : KitTells g.row.W.Denot g.row.K.Denot g.row.U.Denot = record { wire = g.W.Wire.told; clock = g.K.Clock.told; luck = g.U.Luck.told; failures = g.W.Wire.failures_in_a_row; has_ended = g.W.Wire.has_ended } in
    record {
      goes_on = GoesOn-trans tells 0 c.args.listen.now None c.args.hub.now.history c.loop.hub.history c.pass.new.hub.history c.args.kit.now c.loop.kit c.pass.new.kit c.loop.invariant.goes_on c.in-On.ensures.goes_on;
      counted = c.in-On.ensures.counted.0;
      few = omega (arith, c.in-On.ensures.counted.0, c.in-On.ensures.counted.1);
      origin = c.pass.ensures.origin ∙ c.loop.invariant.origin;
    }

pub returns-in-Leaving-clause-goes_on : goal.returns-in-Leaving-clause-goes_on
returns-in-Leaving-clause-goes_on g c =
    let tells : KitTells g.row.W.Denot g.row.K.Denot g.row.U.Denot = record { wire = g.W.Wire.told; clock = g.K.Clock.told; luck = g.U.Luck.told; failures = g.W.Wire.failures_in_a_row; has_ended = g.W.Wire.has_ended } in
    GoesOn-trans tells 0 c.args.listen.now (Some c.in-Leaving.left)
    c.args.hub.now.history c.loop.hub.history c.pass.new.hub.history c.args.kit.now c.loop.kit c.pass.new.kit c.loop.invariant.goes_on c.in-Leaving.ensures.goes_on

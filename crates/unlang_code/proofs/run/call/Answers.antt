use Rattle.std.proofs.Common.{subst, sym}
use Rattle.rad_outside.specs.Moments.{IsInTime}
use Rattle.unlang_code.proofs.Running.{on_err, call_keeps_time, call_stops}
use Rattle.unlang_code.proofs.run.call.Goals as goal

pub returns-in_err-code-clause-memory : goal.returns-in_err-code-clause-memory
returns-in_err-code-clause-memory g c =
    on_err c.from_residual.result
    (call_stops g.M.Module.meaning c.args.stack.now c.args.dict.now c.args.section c.args.kind c.args.call.now c.in-Some.module.now c.args.scope.now (g.W.World.state c.args.world.now) (g.W.World.state c.call.new.world)
    (sym c.in-Some.ensures) c.in_err-code.ensures.memory)

pub returns-clause-in_time : goal.returns-clause-in_time
returns-clause-in_time g c =
    subst IsInTime (sym (call_keeps_time g.M.Module.meaning g.met.M.Module.lawful c.in-Some.module.now c.args.dict.now c.args.section c.args.scope.now c.call.new.scope (g.W.World.state c.args.world.now) (g.W.World.state c.call.new.world) c.in_ok-code.code c.in_ok-code.ensures.ok)) c.requires.in_time

use Rattle.rad_access.proofs.Running.{ready_behind_ok}
use Rattle.rad_access.proofs.policies.Policies.run.Goals as goal

pub returns-clause-ready : goal.returns-clause-ready
returns-clause-ready g c =
    ready_behind_ok (record { stack = c.self.inside.stack; table = c.self.inside.table }) c.args.dict.now c.args.id c.args.scope.now c.run.new.scope (g.W.World.state c.args.world.now) (g.W.World.state c.run.new.world) c.run.result c.run.ensures.ok c.requires.ready

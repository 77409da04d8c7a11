use Rattle.rad_access.proofs.Running.{let_in_now, let_in_then}
use Rattle.rad_access.proofs.policies.Policies.let_in.Goals as goal

pub returns-then-goes_on-clause-ok : goal.returns-then-goes_on-clause-ok
returns-then-goes_on-clause-ok g c =
    let_in_then c.args.self.now c.args.dict.now c.args.server.now c.args.scope.now c.authorize.new.scope c.authenticate.new.scope (g.W.World.state c.args.world.now) (g.W.World.state c.authorize.new.world) (g.W.World.state c.authenticate.new.world)
    c.in_ok-decided.decided c.authenticate.result c.if-goes_on.ensures c.in_ok-decided.ensures.ok c.authenticate.ensures.ok

pub returns-clause-ok : goal.returns-clause-ok
returns-clause-ok g c =
    let_in_now c.args.self.now c.args.dict.now c.args.server.now c.args.scope.now c.authorize.new.scope (g.W.World.state c.args.world.now) (g.W.World.state c.authorize.new.world)
    c.in_ok-decided.decided c.settled.result c.if-goes_on.ensures c.settled.ensures c.in_ok-decided.ensures.ok

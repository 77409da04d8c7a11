use Rattle.std.proofs.Common.{ap, ◌∙◌}
use Rattle.rad_access.specs.Access.{route_of}
use Rattle.rad_access.proofs.Running.{by_verdict_of}
use Rattle.rad_access.proofs.policies.Policies.authenticate.Goals as goal

pub returns-in-Err-clause-ok : goal.returns-in-Err-clause-ok
returns-in-Err-clause-ok g c =
    by_verdict_of c.args.self.now c.args.dict.now c.args.server.now c.route_of-route.result c.verdict_of.result c.args.scope.now (g.W.World.state c.args.world.now)
    (c.route_of-route.ensures.route ∙ ap (route_of c.args.self.now.table c.args.server.now) c.first_text-name.ensures) c.in-Err.is c.verdict_of.ensures

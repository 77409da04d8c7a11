use Rattle.rad_access.proofs.PostAuth.{behind_then}
use Rattle.rad_access.proofs.policies.Policies.behind_let_in.Goals as goal

pub returns : goal.returns
returns g c = record {
  ok = behind_then c.args.self.now c.args.dict.now c.args.server.now c.args.verdict c.args.scope.now c.post_auth_for.new.scope c.refuse_for.new.scope (g.W.World.state c.args.world.now) (g.W.World.state c.post_auth_for.new.world) (g.W.World.state c.refuse_for.new.world)
      c.in_ok-posted.posted c.refuse_for.result c.in_ok-posted.ensures.ok c.refuse_for.ensures.ok;
}

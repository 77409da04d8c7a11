use Rattle.rad_access.proofs.PostAuth.{decided_then}
use Rattle.rad_access.proofs.policies.Policies.decide.Goals as goal

pub returns : goal.returns
returns g c = record {
  ok = decided_then c.args.self.now c.args.dict.now c.args.server.now c.args.scope.now c.let_in.new.scope c.behind_let_in.new.scope (g.W.World.state c.args.world.now) (g.W.World.state c.let_in.new.world) (g.W.World.state c.behind_let_in.new.world)
      c.in_ok-verdict.verdict c.behind_let_in.result c.in_ok-verdict.ensures.ok c.behind_let_in.ensures.ok;
}

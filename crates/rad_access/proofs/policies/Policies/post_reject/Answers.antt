use Rattle.std.proofs.Common.{sym}
use Rattle.rad_access.proofs.PostAuth.{without_reject}
use Rattle.rad_access.proofs.policies.Policies.post_reject.Goals as goal

pub returns-in-None : goal.returns-in-None
returns-in-None g c = record { ok = without_reject c.args.self.now c.args.dict.now c.args.server.now c.args.scope.now (g.W.World.state c.args.world.now) (sym c.in-None.ensures.found) }

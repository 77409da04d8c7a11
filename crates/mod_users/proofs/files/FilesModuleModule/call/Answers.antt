use Rattle.mod_users.proofs.Calls.{call_reaches}
use Rattle.mod_users.proofs.files.FilesModuleModule.call.Goals as goal

pub returns-clause-ok : goal.returns-clause-ok
returns-clause-ok g c = call_reaches c.args.scope.now c.authorize.new.scope (g.W.World.state c.args._world.now) c.args.self.now c.args.dict.now c.authorize.result c.authorize.ensures

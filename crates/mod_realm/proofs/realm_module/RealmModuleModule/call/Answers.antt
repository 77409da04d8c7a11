use Rattle.rad_value.specs.declared.scope.Scope.{Scope}
use Rattle.mod_lists.proofs.Reached.{lists_answered, lists_given_up}
use Rattle.mod_realm.specs.Named.{realm_done}
use Rattle.mod_realm.proofs.realm_module.RealmModuleModule.call.Goals as goal

pub returns-clause-ok : goal.returns-clause-ok
returns-clause-ok g c =
    lists_answered (λ (scope : Scope). realm_done c.args.self.now.realms c.args.self.now.format c.args.self.now.delimiter c.args.method scope.lists) c.args.scope.now c.run_method.new.lists
    (g.W.World.state c.args._world.now) c.run_method.result c.run_method.ensures

pub returns-clause-memory : goal.returns-clause-memory
returns-clause-memory g c =
    lists_given_up (λ (scope : Scope). realm_done c.args.self.now.realms c.args.self.now.format c.args.self.now.delimiter c.args.method scope.lists) c.args.scope.now
    (g.W.World.state c.args._world.now) c.run_method.result

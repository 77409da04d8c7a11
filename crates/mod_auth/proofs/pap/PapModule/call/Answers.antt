use Rattle.rad_value.specs.declared.scope.Scope.{Scope}
use Rattle.mod_lists.proofs.Reached.{lists_answered, lists_given_up}
use Rattle.mod_auth.specs.Pap.{pap_done}
use Rattle.mod_auth.proofs.pap.PapModule.call.Goals as goal

pub returns-clause-ok : goal.returns-clause-ok
returns-clause-ok g c =
    lists_answered (λ (scope : Scope). pap_done c.args.self.now.name c.args.method scope.lists) c.args.scope.now c.run_method.new.lists (g.W.World.state c.args._world.now) c.run_method.result (rw c.as_slice.ensures at c.run_method.ensures)

pub returns-clause-memory : goal.returns-clause-memory
returns-clause-memory g c = lists_given_up (λ (scope : Scope). pap_done c.args.self.now.name c.args.method scope.lists) c.args.scope.now (g.W.World.state c.args._world.now) c.run_method.result

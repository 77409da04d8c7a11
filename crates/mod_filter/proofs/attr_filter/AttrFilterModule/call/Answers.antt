use Rattle.std.proofs.Common.{◌∙◌}
use Rattle.mod_lists.proofs.Reached.{lists_answered, lists_given_up}
use Rattle.mod_filter.specs.Module.{filter_in}
use Rattle.mod_filter.proofs.attr_filter.AttrFilterModule.call.Goals as goal

pub returns-in_err-key-clause-memory : goal.returns-in_err-key-clause-memory
returns-in_err-key-clause-memory g c =
    lists_given_up (filter_in c.args.self.now c.args.dict.now c.args.method) c.args.scope.now (g.W.World.state c.args._world.now) c.from_residual.result

pub returns-clause-ok : goal.returns-clause-ok
returns-clause-ok g c =
    lists_answered (filter_in c.args.self.now c.args.dict.now c.args.method) c.args.scope.now c.filter_for.new.lists (g.W.World.state c.args._world.now) c.filter_for.result
    (rw (c.as_slice.ensures ∙ c.in_ok-key.ensures) at c.filter_for.ensures)

pub returns-clause-memory : goal.returns-clause-memory
returns-clause-memory g c =
    lists_given_up (filter_in c.args.self.now c.args.dict.now c.args.method) c.args.scope.now (g.W.World.state c.args._world.now) c.filter_for.result

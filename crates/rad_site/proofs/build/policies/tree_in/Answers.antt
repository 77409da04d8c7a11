use Rattle.std.proofs.Common.{Ok, Err}
use Rattle.unlang_tree.specs.Policies.{policies_of}
use Rattle.rad_site.proofs.Trees.{gives_tree}
use Rattle.rad_site.proofs.build.policies.tree_in.Goals as goal

pub returns-in-Ok : goal.returns-in-Ok
returns-in-Ok c = gives_tree (Ok c.in-Ok.policies) (policies_of c.args.conf.now c.args.dict.now c.args.instances.now) c.in-Ok.ensures

pub returns-in-Err : goal.returns-in-Err
returns-in-Err c = rw c.from.ensures (gives_tree (Err c.in-Err.fault) (policies_of c.args.conf.now c.args.dict.now c.args.instances.now) c.in-Err.ensures)

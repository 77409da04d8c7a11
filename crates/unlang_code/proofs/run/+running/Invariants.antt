use Rattle.std.proofs.Common.{drop, ◌*◌, ◌+◌}
use Rattle.unlang_code.proofs.Stepping.{Stands}
use Rattle.unlang_code.proofs.run.+running.Given as goal

abbrev pub invariant-run_members-loop-statement : goal.invariant-run_members-loop-statement
invariant-run_members-loop-statement g l = Stands g.M.Module.meaning l.stack l.dict l.section l.kind l.fn.leading l.statements l.fn.scope (g.W.World.state l.fn.world) l.leading (drop l.statement-index l.statements) l.scope (g.W.World.state l.world)

abbrev pub decreases-run_around : goal.decreases-run_around
decreases-run_around g l = 8 * goal.size-run_around g l + 2

abbrev pub decreases-run_balanced : goal.decreases-run_balanced
decreases-run_balanced g l = 8 * goal.size-run_balanced g l + 3

abbrev pub decreases-run_formed : goal.decreases-run_formed
decreases-run_formed g l = 8 * goal.size-run_formed g l + 4

abbrev pub decreases-run_group : goal.decreases-run_group
decreases-run_group g l = 8 * goal.size-run_group g l

abbrev pub decreases-run_in_order : goal.decreases-run_in_order
decreases-run_in_order g l = 8 * goal.size-run_in_order g l + 2

abbrev pub decreases-run_kind : goal.decreases-run_kind
decreases-run_kind g l = 8 * goal.size-run_kind g l

abbrev pub decreases-run_members : goal.decreases-run_members
decreases-run_members g l = 8 * goal.size-run_members g l + 1

abbrev pub decreases-run_statement : goal.decreases-run_statement
decreases-run_statement g l = 8 * goal.size-run_statement g l

abbrev pub decreases-run_arm : goal.decreases-run_arm
decreases-run_arm g l = 8 * goal.size-run_arm g l

abbrev pub decreases-run_if : goal.decreases-run_if
decreases-run_if g l = 8 * goal.size-run_if g l + 1

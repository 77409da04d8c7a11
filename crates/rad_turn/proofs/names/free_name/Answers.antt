use Rattle.std.proofs.Common.{◌∙◌}
use Rattle.rad_turn.proofs.Naming.{free_step}
use Rattle.rad_turn.proofs.names.free_name.Goals as goal

pub loop-taken-preserved : goal.loop-taken-preserved
loop-taken-preserved c = let t = free_step c.args.out.now _ _ _ c.loop-taken-test.true c.loop-taken.invariant.0 c.name_after-name.ensures in (t.0, t.1 ∙ c.loop-taken.invariant.1)

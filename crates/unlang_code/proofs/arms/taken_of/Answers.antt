use Rattle.std.proofs.Common.{refl}
use Rattle.unlang_code.proofs.arms.taken_of.Goals as goal

pub loop-arm-init : goal.loop-arm-init
loop-arm-init c = record { same = refl; alone = refl; in_time = c.requires }

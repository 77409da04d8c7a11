use Rattle.std.proofs.Common.{refl}
use Rattle.unlang_code.proofs.update.do_lines.Goals as goal

pub loop-line-init : goal.loop-line-init
loop-line-init c = record { same = refl; in_time = c.requires }

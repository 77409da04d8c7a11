use Rattle.unlang_xlat.specs.Faults.{parsed}
use Rattle.unlang_cond.proofs.Expanding.{refaulted}
use Rattle.unlang_cond.proofs.expansion.expansion_of.Goals as goal

pub returns-in-Err : goal.returns-in-Err
returns-in-Err c = rw c.error_of.ensures (refaulted (parsed c.args.text.now c.args.dict.now) c.in-Err.fault c.args.left c.in-Err.ensures)

use Rattle.unlang_cond.proofs.WrittenPrinted.{printed}
use Rattle.unlang_cond.proofs.laws.conditions_are_printed_as_they_are_written.Goals as goal

pub returns : goal.returns
returns c = λ dict spell tree is. printed dict spell tree is

use Rattle.unlang_code.proofs.OperatorLaws.{success_is_last}
use Rattle.unlang_code.proofs.laws.redundant_blocks_end_with_a_success.Goals as goal

pub returns : goal.returns
returns g c = success_is_last g.M.Module.meaning

use Rattle.unlang_code.proofs.OperatorLaws.{one_of_them_runs}
use Rattle.unlang_code.proofs.laws.load_balance_blocks_run_one_member.Goals as goal

pub returns : goal.returns
returns g c = one_of_them_runs g.M.Module.meaning

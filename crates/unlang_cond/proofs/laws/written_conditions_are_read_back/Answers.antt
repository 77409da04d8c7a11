use Rattle.unlang_cond.proofs.WrittenConditions.{condition_read, condition_accepted}
use Rattle.unlang_cond.proofs.laws.written_conditions_are_read_back.Goals as goal

pub returns-clause-read : goal.returns-clause-read
returns-clause-read c = λ dict tree text is. condition_read dict tree text is

pub returns-clause-accepted : goal.returns-clause-accepted
returns-clause-accepted c = λ dict tree text fault is e. condition_accepted dict tree text fault is e

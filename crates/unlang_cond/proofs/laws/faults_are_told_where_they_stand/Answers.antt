use Rattle.unlang_cond.proofs.FaultLaw.{fault_told}
use Rattle.unlang_cond.proofs.laws.faults_are_told_where_they_stand.Goals as goal

pub returns : goal.returns
returns c = λ dict text fault small e. fault_told dict text fault small e

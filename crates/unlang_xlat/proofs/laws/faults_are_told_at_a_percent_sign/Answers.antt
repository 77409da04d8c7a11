use Rattle.unlang_xlat.proofs.FaultLaw.{fault_at_sign}
use Rattle.unlang_xlat.proofs.laws.faults_are_told_at_a_percent_sign.Goals as goal

pub returns : goal.returns
returns c = λ dict text fault small e. fault_at_sign dict text fault small e

use Rattle.radclient.proofs.FirstWrong.{fault_is}
use Rattle.radclient.proofs.laws.the_fault_is_the_first_wrong_line.Goals as goal

pub returns : goal.returns
returns c = λ text wrong is. fault_is text wrong is

use Rattle.std.proofs.Common.{refl}
use Rattle.mod_auth.proofs.LetIn.{pap_lets_in}
use Rattle.mod_auth.proofs.laws.pap_lets_in_by_the_password.Goals as goal

pub returns-clause-exactly : goal.returns-clause-exactly
returns-clause-exactly c name lists = pap_lets_in lists

pub returns-clause-stays : goal.returns-clause-stays
returns-clause-stays c name lists = refl

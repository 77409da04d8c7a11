use Rattle.std.proofs.Common.{refl}
use Rattle.mod_auth.proofs.LetIn.{chap_lets_in}
use Rattle.mod_auth.proofs.laws.chap_lets_in_by_the_digest.Goals as goal

pub returns-clause-exactly : goal.returns-clause-exactly
returns-clause-exactly c name authenticator lists = chap_lets_in authenticator lists

pub returns-clause-stays : goal.returns-clause-stays
returns-clause-stays c name authenticator lists = refl

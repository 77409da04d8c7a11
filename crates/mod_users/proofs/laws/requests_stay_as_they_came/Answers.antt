use Rattle.mod_users.proofs.OperatorLaws.{files_keep_requests}
use Rattle.mod_users.proofs.laws.requests_stay_as_they_came.Goals as goal

pub returns : goal.returns
returns c = λ rows key dict lists. files_keep_requests rows key dict lists

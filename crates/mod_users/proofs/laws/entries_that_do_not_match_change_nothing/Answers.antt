use Rattle.mod_users.proofs.OperatorLaws.{files_passed}
use Rattle.mod_users.proofs.laws.entries_that_do_not_match_change_nothing.Goals as goal

pub returns : goal.returns
returns c = λ front rest row key dict lists e. files_passed key dict front rest row lists e

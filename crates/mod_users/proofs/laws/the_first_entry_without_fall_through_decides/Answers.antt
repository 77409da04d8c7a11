use Rattle.mod_users.proofs.OperatorLaws.{files_decided}
use Rattle.mod_users.proofs.laws.the_first_entry_without_fall_through_decides.Goals as goal

pub returns : goal.returns
returns c = λ front rest row key dict lists e f. files_decided key dict front rest row lists e f

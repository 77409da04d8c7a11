use Rattle.unlang_code.proofs.Judged.{returned_ends, rejected_ends, greatest_wins}
use Rattle.unlang_code.proofs.laws.groups_answer_as_their_children.Goals as goal

pub returns-clause-returned : goal.returns-clause-returned
returns-clause-returned c = returned_ends

pub returns-clause-rejected : goal.returns-clause-rejected
returns-clause-rejected c = rejected_ends

pub returns-clause-greatest : goal.returns-clause-greatest
returns-clause-greatest c = greatest_wins

use Rattle.unlang_tree.specs.EachCall.{Passes}
use Rattle.unlang_tree.proofs.EachWider.{each_wider, servers_wider}
use Rattle.unlang_tree.proofs.laws.what_holds_of_each_call_can_be_widened.Goals as goal

pub returns-clause-statements : goal.returns-clause-statements
returns-clause-statements c = λ test wider h section statements all. each_wider (Passes test) (Passes wider) h section statements all

pub returns-clause-servers : goal.returns-clause-servers
returns-clause-servers c = λ test wider h servers all. servers_wider (Passes test) (Passes wider) h servers all

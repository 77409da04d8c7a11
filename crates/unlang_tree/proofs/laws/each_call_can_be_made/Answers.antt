use Rattle.unlang_tree.proofs.CallsMet.{servers_met}
use Rattle.unlang_tree.proofs.laws.each_call_can_be_made.Goals as goal

pub returns : goal.returns
returns c = servers_met

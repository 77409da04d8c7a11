use Rattle.unlang_tree.proofs.WrittenBlocks.{policy_written}
use Rattle.unlang_tree.proofs.laws.a_called_policy_is_read_where_it_stands.Goals as goal

pub returns : goal.returns
returns c = policy_written

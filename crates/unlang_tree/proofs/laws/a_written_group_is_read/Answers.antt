use Rattle.unlang_tree.proofs.WrittenBlocks.{group_written}
use Rattle.unlang_tree.proofs.laws.a_written_group_is_read.Goals as goal

pub returns : goal.returns
returns c = group_written

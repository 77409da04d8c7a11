use Rattle.unlang_tree.proofs.WrittenCalls.{calls_read}
use Rattle.unlang_tree.proofs.laws.written_calls_are_read.Goals as goal

pub returns : goal.returns
returns c = calls_read

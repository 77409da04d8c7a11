use Rattle.std.proofs.Common.{arith}
use Rattle.unlang_tree.proofs.WrittenBlocks.{last_too_deep}
use Rattle.unlang_tree.proofs.laws.the_33rd_block_is_too_deep.Goals as goal

pub returns : goal.returns
returns c = λ site section room node last deep fits. last_too_deep site section 65536 32 room node last deep fits (omega arith)

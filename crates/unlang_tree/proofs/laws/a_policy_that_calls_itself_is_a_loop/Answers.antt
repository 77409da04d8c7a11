use Rattle.std.proofs.Common.{[], arith}
use Rattle.unlang_tree.proofs.WrittenBlocks.{leads_back}
use Rattle.unlang_tree.proofs.laws.a_policy_that_calls_itself_is_a_loop.Goals as goal

pub returns : goal.returns
returns c = λ site section room before node last back fits most. leads_back site section 65536 32 room [] before node last back fits (omega (arith, fits, most))

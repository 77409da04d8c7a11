use Rattle.unlang_tree.proofs.WrittenBlocks.{if_written}
use Rattle.unlang_tree.proofs.laws.a_written_if_is_read.Goals as goal

pub returns : goal.returns
returns c =
    λ site section room node later condition body inner count arms more is nested further fits most. if_written site section room node later condition body inner count arms more is nested further fits most

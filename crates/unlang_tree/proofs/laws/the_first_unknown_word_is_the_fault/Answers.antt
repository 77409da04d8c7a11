use Rattle.unlang_tree.proofs.WrittenCalls.{unknown_found}
use Rattle.unlang_tree.proofs.laws.the_first_unknown_word_is_the_fault.Goals as goal

pub returns : goal.returns
returns c = unknown_found

use Rattle.unlang_reference.proofs.WrittenNames.{reference_read}
use Rattle.unlang_reference.proofs.laws.written_references_are_read_back.Goals as goal

pub returns : goal.returns
returns c = λ dict reference text is. reference_read dict is

use Rattle.unlang_xlat.proofs.WrittenParts.{expansion_read}
use Rattle.unlang_xlat.proofs.laws.written_expansions_are_read_back.Goals as goal

pub returns : goal.returns
returns c = λ dict parts text are. expansion_read dict parts text are

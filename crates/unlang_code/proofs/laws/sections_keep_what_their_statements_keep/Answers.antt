use Rattle.unlang_code.proofs.Keeping.{section_keeps}
use Rattle.unlang_code.proofs.laws.sections_keep_what_their_statements_keep.Goals as goal

pub returns : goal.returns
returns g c = section_keeps g.F.ListFact.holds g.M.Module.meaning

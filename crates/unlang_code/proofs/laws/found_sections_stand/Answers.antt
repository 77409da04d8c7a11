use Rattle.unlang_code.proofs.Finding.{found_stands}
use Rattle.unlang_code.proofs.laws.found_sections_stand.Goals as goal

pub returns : goal.returns
returns c = found_stands

use Rattle.unlang_code.proofs.OtherLists.{others_stay}
use Rattle.unlang_code.proofs.laws.updates_leave_other_lists.Goals as goal

pub returns : goal.returns
returns c = λ dict section kind lines situation list free. others_stay dict lines situation.scope list free

use Rattle.mod_base.proofs.Frames.{values_stay}
use Rattle.mod_base.proofs.laws.modules_keep_their_frames.Goals as goal

pub returns : goal.returns
returns c = values_stay

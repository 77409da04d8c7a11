use Rattle.rad_wire.proofs.Answering.{reply_accepted}
use Rattle.rad_wire.proofs.laws.replies_are_accepted.Goals as goal

pub returns : goal.returns
returns c = reply_accepted

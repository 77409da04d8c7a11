use Rattle.rad_wire.proofs.RepliesDecoded.{reply_again}
use Rattle.rad_wire.proofs.laws.replies_are_decoded.Goals as goal

pub returns : goal.returns
returns c = reply_again

use Rattle.rad_wire.proofs.Replies.{reply_packet}
use Rattle.rad_wire.proofs.laws.replies_are_packets.Goals as goal

pub returns : goal.returns
returns c = reply_packet

use Rattle.rad_packet.proofs.AttributeLists.{one_reading, same_attributes, packet_reading}
use Rattle.rad_packet.proofs.laws.attributes_have_one_reading.Goals as goal

pub returns-clause-unique : goal.returns-clause-unique
returns-clause-unique c = same_attributes

pub returns-clause-read : goal.returns-clause-read
returns-clause-read c = one_reading

pub returns-clause-of_packet : goal.returns-clause-of_packet
returns-clause-of_packet c = packet_reading

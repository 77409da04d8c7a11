use Rattle.rad_packet.proofs.Intact.{not_of_other_length, not_twice, right_intact, right_length, right_signed}
use Rattle.rad_packet.proofs.laws.message_authenticators_vouch.Goals as goal

pub returns-clause-length : goal.returns-clause-length
returns-clause-length c = right_length

pub returns-clause-signed : goal.returns-clause-signed
returns-clause-signed c = right_signed

pub returns-clause-once : goal.returns-clause-once
returns-clause-once c = not_twice

pub returns-clause-exact : goal.returns-clause-exact
returns-clause-exact c = not_of_other_length

pub returns-clause-right : goal.returns-clause-right
returns-clause-right c = right_intact

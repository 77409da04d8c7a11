use Rattle.rad_packet.proofs.HidingUndone.{hidden-has_length, hidden-undone}
use Rattle.rad_packet.proofs.hiding.hidden_passwords_are_revealed.Goals as goal

pub returns-clause-length : goal.returns-clause-length
returns-clause-length c = hidden-has_length

pub returns-clause-undone : goal.returns-clause-undone
returns-clause-undone c = hidden-undone

use Rattle.rad_wire.proofs.Answering.{accepted_without_fault, fault_without_accepted}
use Rattle.rad_wire.proofs.laws.accepted_replies_have_no_fault.Goals as goal

pub returns-clause-accepted : goal.returns-clause-accepted
returns-clause-accepted c = accepted_without_fault

pub returns-clause-refused : goal.returns-clause-refused
returns-clause-refused c = fault_without_accepted

use Rattle.rad_packet.proofs.Datagrams.{authentic_without_cause, cause_without_authentic, one_first_cause}
use Rattle.rad_packet.proofs.laws.authentic_has_no_cause.Goals as goal

pub returns-clause-taken : goal.returns-clause-taken
returns-clause-taken c = authentic_without_cause

pub returns-clause-dropped : goal.returns-clause-dropped
returns-clause-dropped c = cause_without_authentic

pub returns-clause-one_cause : goal.returns-clause-one_cause
returns-clause-one_cause c = one_first_cause

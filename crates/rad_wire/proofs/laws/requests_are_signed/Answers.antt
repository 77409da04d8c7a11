use Rattle.rad_wire.proofs.Answering.{access_signed, accounting_signed, made_code, made_id}
use Rattle.rad_wire.proofs.laws.requests_are_signed.Goals as goal

pub returns-clause-access : goal.returns-clause-access
returns-clause-access c = access_signed

pub returns-clause-accounting : goal.returns-clause-accounting
returns-clause-accounting c = accounting_signed

pub returns-clause-code : goal.returns-clause-code
returns-clause-code c = made_code

pub returns-clause-id : goal.returns-clause-id
returns-clause-id c = made_id

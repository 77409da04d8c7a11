use Rattle.rad_wire.proofs.RequestsDecoded.{request_again}
use Rattle.rad_wire.proofs.laws.requests_are_decoded.Goals as goal

pub returns : goal.returns
returns c = request_again

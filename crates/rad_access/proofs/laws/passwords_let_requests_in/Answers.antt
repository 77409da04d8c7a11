use Rattle.rad_access.specs.Passwords.{IsPap}
use Rattle.rad_access.proofs.PasswordsChecked.{Knows, pap_stays, pap_shows}
use Rattle.rad_access.proofs.Accepted.{accepted_shows}
use Rattle.rad_access.proofs.laws.passwords_let_requests_in.Goals as goal

pub returns : goal.returns
returns c policies dict server begun checks empty is = accepted_shows policies dict IsPap Knows (pap_stays dict) (pap_shows dict) server checks begun empty is

use Rattle.mod_auth.specs.LetsIn.{HasTheDigest}
use Rattle.rad_access.specs.Passwords.{IsChap}
use Rattle.rad_access.proofs.PasswordsChecked.{chap_stays, chap_shows}
use Rattle.rad_access.proofs.Accepted.{accepted_shows}
use Rattle.rad_access.proofs.laws.challenges_let_requests_in.Goals as goal

pub returns : goal.returns
returns c policies dict server begun checks empty is = accepted_shows policies dict IsChap HasTheDigest (chap_stays dict) (chap_shows dict) server checks begun empty is

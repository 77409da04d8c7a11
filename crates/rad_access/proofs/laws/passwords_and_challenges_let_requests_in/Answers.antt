use Rattle.rad_access.specs.Passwords.{IsPapOrChap}
use Rattle.rad_access.proofs.PasswordsChecked.{KnowsOrHas, either_stays, either_shows}
use Rattle.rad_access.proofs.Accepted.{accepted_shows}
use Rattle.rad_access.proofs.laws.passwords_and_challenges_let_requests_in.Goals as goal

pub returns : goal.returns
returns c policies dict server begun checks empty is = accepted_shows policies dict IsPapOrChap KnowsOrHas (either_stays dict) (either_shows dict) server checks begun empty is

use Rattle.rad_access.specs.Passwords.{IsPap, IsChap, IsPapOrChap}
use Rattle.rad_access.proofs.PasswordsChecked.{Knows, pap_stays, pap_shows, chap_stays, chap_shows, KnowsOrHas, either_stays, either_shows}
use Rattle.rad_access.proofs.Accepted.{accepted_shows}
use Rattle.mod_auth.specs.LetsIn.{HasTheDigest}
use Rattle.std.proofs.Common.{refl}
use Rattle.rad_site.specs.Accepts.{begun_by}
use Rattle.rad_site.proofs.Accepting.{accepted}
use Rattle.rad_site.proofs.laws.access_accepts_had_the_password.Goals as goal

pub returns-clause-passwords : goal.returns-clause-passwords
returns-clause-passwords c site arrival moment luck answers octets checks is two =
    accepted_shows site.policies site.dict IsPap Knows (pap_stays site.dict) (pap_shows site.dict) arrival.server checks (begun_by site arrival moment luck answers) refl
    (accepted site arrival moment luck answers octets is two)

pub returns-clause-challenges : goal.returns-clause-challenges
returns-clause-challenges c site arrival moment luck answers octets checks is two =
    accepted_shows site.policies site.dict IsChap HasTheDigest (chap_stays site.dict) (chap_shows site.dict) arrival.server checks (begun_by site arrival moment luck answers) refl
    (accepted site arrival moment luck answers octets is two)

pub returns-clause-either : goal.returns-clause-either
returns-clause-either c site arrival moment luck answers octets checks is two =
    accepted_shows site.policies site.dict IsPapOrChap KnowsOrHas (either_stays site.dict) (either_shows site.dict) arrival.server checks (begun_by site arrival moment luck answers) refl
    (accepted site arrival moment luck answers octets is two)

use Rattle.rad_dates.proofs.DateLaws.{is_date, goes_back, is_its_own}
use Rattle.rad_dates.proofs.laws.dates_are_of_their_seconds.Goals as goal

pub returns-clause-date : goal.returns-clause-date
returns-clause-date c = is_date

pub returns-clause-back : goal.returns-clause-back
returns-clause-back c = goes_back

pub returns-clause-only : goal.returns-clause-only
returns-clause-only c = is_its_own

use Rattle.rad_dates.proofs.DateLaws.{first_weekday, next_weekday}
use Rattle.rad_dates.proofs.laws.weekdays_go_round.Goals as goal

pub returns-clause-first : goal.returns-clause-first
returns-clause-first c = first_weekday

pub returns-clause-next : goal.returns-clause-next
returns-clause-next c = next_weekday

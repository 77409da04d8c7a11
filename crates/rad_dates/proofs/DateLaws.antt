-- The date of a moment and the moment of a date.
use Rattle.std.proofs.Common.{◌≡◌, ℕ, ◌+◌, ◌-◌, ◌*◌, ◌/◌, ◌%◌, ◌<◌, refl, sym, ap, ◌∙◌, arith}
use Rattle.rad_dates.specs.declared.civil.Civil.{Civil}
use Rattle.rad_dates.specs.Calendar.{days_in_year, days_in_month, days_of_months, day_number, weekday_of, seconds_of, IsDate}
use Rattle.rad_dates.specs.Dates.{year_at, month_at, date_by, date_on, date_of}
use Rattle.rad_dates.proofs.Walks.{YearWalk, MonthWalk, year_walk, month_walk, year_found, month_found, year_months, years_long, month_within}

same_date : (year month day hour minute second weekday : ℕ) (date : Civil)
    → year ≡ date.year → month ≡ date.month → day ≡ date.day → hour ≡ date.hour → minute ≡ date.minute → second ≡ date.second → weekday ≡ date.weekday
    → record { year = year; month = month; day = day; hour = hour; minute = minute; second = second; weekday = weekday } ≡ date
same_date year month day hour minute second weekday date a b c d e f g = rw (a, b, c, d, e, f, g) refl

-- What was gone through to a day makes a date, and its number is the day's.
walked_number : (days seconds : ℕ) (year month : ℕ × ℕ) → YearWalk 1970 days year → MonthWalk year.0 11 1 year.1 month → day_number (date_by days seconds year month) ≡ days
walked_number days seconds year month years months =
    let one : year.0 - 1970 ≡ years.count = omega (arith, years.year) in
    let two : month.0 - 1 ≡ months.count = omega (arith, months.month) in
    rw (one, two) (omega (arith, years.sum, months.sum))

walked_date : (days seconds : ℕ) (year month : ℕ × ℕ) → seconds < 86400 → YearWalk 1970 days year → MonthWalk year.0 11 1 year.1 month → IsDate (date_by days seconds year month)
walked_date days seconds year month few years months = record {
  year = omega (arith, years.year);
  month = (omega (arith, months.month), omega (arith, months.month, months.few));
  day = (omega arith, omega (arith, months.rest));
  hour = omega arith;
  minute = omega arith;
  second = omega arith;
  weekday = ap weekday_of (sym (walked_number days seconds year month years months));
}

months_of : (days : ℕ) → MonthWalk (year_at days 1970 days).0 11 1 (year_at days 1970 days).1 (month_at (year_at days 1970 days).0 11 1 (year_at days 1970 days).1)
months_of days =
    let walk = year_walk days 1970 days (omega arith) in
    month_walk 11 (year_at days 1970 days).0 1 (year_at days 1970 days).1 (omega (arith, walk.rest, year_months (year_at days 1970 days).0))

pub is_date : (moment : ℕ) → IsDate (date_of moment)
unfolding date_of
is_date moment =
    let days = moment / 86400 in
    walked_date days (moment % 86400) _ _ (omega arith) (year_walk days 1970 days (omega arith)) (months_of days)

number_of_day : (moment : ℕ) → day_number (date_of moment) ≡ moment / 86400
unfolding date_of
number_of_day moment =
    let days = moment / 86400 in
    walked_number days (moment % 86400) _ _ (year_walk days 1970 days (omega arith)) (months_of days)

pub goes_back : (moment : ℕ) → seconds_of (date_of moment) ≡ moment
unfolding date_of
goes_back moment = rw (number_of_day moment) (omega arith)

-- A date is the one on its day.
on_its_day : (date : Civil) (days seconds : ℕ) → IsDate date → days ≡ day_number date → seconds ≡ date.hour * 3600 + date.minute * 60 + date.second → date_on days seconds ≡ date
on_its_day date days seconds is number time =
    let before = days_of_months date.year 1 (date.month - 1) + (date.day - 1) in
    let count = date.year - 1970 in
    let first : 1 + (date.month - 1) ≡ date.month = omega (arith, is.month) in
    let in_month : date.day - 1 < days_in_month date.year date.month = omega (arith, is.day) in
    let within : before < days_in_year date.year = rw (sym (year_months date.year)) (month_within (date.month - 1) (12 - date.month) 12 date.year 1 (date.day - 1) (omega (arith, is.month)) (rw first in_month)) in
    let years : year_at days 1970 days ≡ (date.year, before) = year_found count days 1970 days before date.year (omega (arith, number, years_long count 1970)) (omega (arith, number)) within (omega (arith, is.year)) in
    let months : month_at date.year 11 1 before ≡ (date.month, date.day - 1) = month_found (date.month - 1) 11 date.year 1 before (date.day - 1) date.month (omega (arith, is.month)) refl in_month (sym first) in
    rw (years, months) (same_date _ _ _ _ _ _ _ date refl refl (omega (arith, is.day)) (omega (arith, time, is.minute, is.second)) (omega (arith, time, is.minute, is.second)) (omega (arith, time, is.minute, is.second)) (ap weekday_of number ∙ sym is.weekday))

pub is_its_own : (date : Civil) → IsDate date → date_of (seconds_of date) ≡ date
unfolding date_of
is_its_own date is =
    let rest = date.hour * 3600 + date.minute * 60 + date.second in
    on_its_day date (seconds_of date / 86400) (seconds_of date % 86400) is (omega (arith, is.hour, is.minute, is.second)) (omega (arith, is.hour, is.minute, is.second))

pub next_weekday : (moment : ℕ) → (date_of (moment + 86400)).weekday ≡ ((date_of moment).weekday + 1) % 7
unfolding date_of
next_weekday moment = omega arith

pub first_weekday : (date_of 0).weekday ≡ 4
unfolding date_of
first_weekday = refl

-- The calendar: the years, months and days of the Gregorian calendar, carried back and forth without an end (ISO 8601), and
-- the seconds since the first moment of 1970 in UTC, without leap seconds (POSIX, seconds since the Epoch).
use Rattle.std.specs.Prelude.{ℕ, zero, suc, ◌≡◌, ◌+◌, ◌-◌, ◌*◌, ◌%◌, ◌<◌, ◌≤◌, Bool, not, ◌&&◌, ◌||◌, ◌==◌, if◌then◌else◌}
use Rattle.rad_dates.specs.declared.civil.Civil.{Civil}

-- Every fourth year has a leap day, but of those that end a century only every fourth.
abbrev pub is_leap_year : ℕ → Bool
is_leap_year year = (year % 4 == 0) && (not (year % 100 == 0) || (year % 400 == 0))

-- The days of a year.
abbrev pub days_in_year : ℕ → ℕ
days_in_year year = if is_leap_year year then 366 else 365

-- The days of a month: thirty have April, June, September and November; February has 28, and in leap years 29; the others
-- have 31.
abbrev pub days_in_month : ℕ → ℕ → ℕ
days_in_month year month =
    if month == 2 then (if is_leap_year year then 29 else 28)
    else (if (month == 4) || (month == 6) || (month == 9) || (month == 11) then 30 else 31)

-- The days of so many years from a year on.
unfoldable pub days_of_years : ℕ → ℕ → ℕ
days_of_years year zero = 0
days_of_years year (suc count) = days_in_year year + days_of_years (year + 1) count

-- The days of so many months of a year from a month on.
unfoldable pub days_of_months : ℕ → ℕ → ℕ → ℕ
days_of_months year month zero = 0
days_of_months year month (suc count) = days_in_month year month + days_of_months year (month + 1) count

-- The days between 1 January 1970 and a date.
abbrev pub day_number : Civil → ℕ
day_number date = days_of_years 1970 (date.year - 1970) + days_of_months date.year 1 (date.month - 1) + (date.day - 1)

-- The weekday of a day by its number, 0 for Sunday: 1 January 1970 was a Thursday.
abbrev pub weekday_of : ℕ → ℕ
weekday_of days = (days + 4) % 7

-- The seconds between the first moment of 1970 and a date and time.
abbrev pub seconds_of : Civil → ℕ
seconds_of date = day_number date * 86400 + date.hour * 3600 + date.minute * 60 + date.second

-- A date that the calendar has, from 1970 on, with its weekday, and a time of day.
pub record IsDate (date : Civil) : Type 0 where
  pub year : 1970 ≤ date.year
  pub month : (1 ≤ date.month) × (date.month ≤ 12)
  pub day : (1 ≤ date.day) × (date.day ≤ days_in_month date.year date.month)
  pub hour : date.hour < 24
  pub minute : date.minute < 60
  pub second : date.second < 60
  pub weekday : date.weekday ≡ weekday_of (day_number date)

-- The date and time of a moment, in UTC. After the calendar of ISO 8601 and the seconds since the Epoch of POSIX.
use Rattle.std.specs.Prelude.{ℕ, zero, suc, ◌+◌, ◌-◌, ◌/◌, ◌%◌, nat_lt, if◌then◌else◌}
use Rattle.rad_dates.specs.declared.civil.Civil.{Civil}
use Rattle.rad_dates.specs.Calendar.{days_in_year, days_in_month, weekday_of}

-- The year of the day that so many days lie behind the first of a year, and how many days of its own year lie before it.
-- The turns are years that are gone through at most.
unfoldable pub year_at : ℕ → ℕ → ℕ → ℕ × ℕ
year_at zero year days = (year, days)
year_at (suc turns) year days = if nat_lt days (days_in_year year) then (year, days) else year_at turns (year + 1) (days - days_in_year year)

-- The same of the months of a year.
unfoldable pub month_at : ℕ → ℕ → ℕ → ℕ → ℕ × ℕ
month_at year zero month days = (month, days)
month_at year (suc turns) month days = if nat_lt days (days_in_month year month) then (month, days) else month_at year turns (month + 1) (days - days_in_month year month)

-- A date by its day: its year with the days before it in that year, and the month with those before it in that month; and a
-- time by the seconds since midnight.
abbrev pub date_by : ℕ → ℕ → ℕ × ℕ → ℕ × ℕ → Civil
date_by days seconds year month = record {
  year = year.0;
  month = month.0;
  day = month.1 + 1;
  hour = seconds / 3600;
  minute = seconds / 60 % 60;
  second = seconds % 60;
  weekday = weekday_of days;
}

-- The date and time of a day by its number and of the seconds since midnight. There are as many turns as days, and twelve
-- months.
abbrev pub date_on : ℕ → ℕ → Civil
date_on days seconds = date_by days seconds (year_at days 1970 days) (month_at (year_at days 1970 days).0 11 1 (year_at days 1970 days).1)

-- The date and time of a moment, in seconds since 1970.
unfoldable pub date_of : ℕ → Civil
date_of moment = date_on (moment / 86400) (moment % 86400)

-- The date that jiff shows at a moment, in the terms of this calendar.
use Rattle.std.proofs.Common.{◌≡◌, ℕ, zero, suc, ◌+◌, ◌-◌, ◌*◌, ◌/◌, ◌%◌, ◌<◌, ◌≤◌, refl, sym, ap, ◌∙◌, arith, ℤ, pos, negsuc, ◌+ℤ◌, ◌*ℤ◌, ◌≤ℤ◌, unsigned_abs, nat_abs, to_z, of_z, w8, w16, w64}
use Rattle.std.proofs.lemmas.Int.{by_lt_z, to_z_pos}
use Rattle.jiff_core.specs.declared.civil.datetime.DateTime.{DateTime}
use Rattle.jiff_core.specs.Calendar as jiff
use Rattle.jiff_core.specs.Date.{epoch_day, weekday_of as jiff_weekday}
use Rattle.jiff_core.specs.DateTime.{civil_nanos}
use Rattle.jiff_core.proofs.SignedLemmas.{signed_arith, back_small}
use Rattle.jiff_core.proofs.DateTimeLemmas.{civil_nanos-parts, time_nanos_bound}
use Rattle.rad_dates.specs.Dates.{date_of}
use Rattle.rad_dates.proofs.DateLaws.{is_its_own}
use Rattle.jiff_core.proofs.CalendarLemmas.{days_from_civil-day_count, day_count-epoch, day_count-lt_year, day_count-next_year, day_count-day_of_year, weekday_number-parts}
use Rattle.rad_dates.specs.declared.civil.Civil.{Civil}
use Rattle.rad_dates.specs.Calendar.{days_in_year, days_in_month, days_of_years, days_of_months, day_number, weekday_of, seconds_of, IsDate}
use Rattle.rad_outside.specs.Moments.{IsInTime}

year_sum : (count year : ℕ) → jiff.day_count (pos (year + count)) 1 1 ≡ jiff.day_count (pos year) 1 1 + days_of_years year count
unfolding days_of_years
year_sum zero year = let same : year + 0 ≡ year = omega arith in rw same (omega arith)
year_sum (suc count) year =
    let same : year + suc count ≡ year + 1 + count = omega arith in
    let next : jiff.day_count (pos (year + 1)) 1 1 ≡ jiff.day_count (pos year) 1 1 + days_in_year year = day_count-next_year (pos year) (pos (year + 1)) (omega (arith, signed_arith)) refl in
    rw same (omega (arith, year_sum count (year + 1), next))

month_more : (count year month : ℕ) → days_of_months year month (suc count) ≡ days_of_months year month count + days_in_month year (month + count)
unfolding days_of_months
month_more zero year month = let same : month + 0 ≡ month = omega arith in rw same (omega arith)
month_more (suc count) year month =
    let same : month + suc count ≡ month + 1 + count = omega arith in
    rw same (omega (arith, month_more count year (month + 1)))

month_sum : (count year : ℕ) → jiff.days_of_months (pos year) count ≡ days_of_months year 1 count
unfolding jiff.days_of_months
month_sum zero year = unfold days_of_months in refl
month_sum (suc count) year =
    let same : suc count ≡ 1 + count = omega arith in
    ap (λ (n : ℕ). n + days_in_month year (suc count)) (month_sum count year)
    ∙ ap (λ (m : ℕ). days_of_months year 1 count + days_in_month year m) same
    ∙ sym (month_more count year 1)

-- A day number of 1970 or later, by the year, the month and the day.
pub record Numbered (year : ℤ) (month day number : ℕ) : Type 0 where
  pub plain : ℕ
  pub is : year ≡ pos plain
  pub late : 1970 ≤ plain
  pub sum : days_of_years 1970 (plain - 1970) + days_of_months plain 1 (month - 1) + (day - 1) ≡ number

late : (year : ℤ) (month day days : ℕ) → jiff.IsCivilDate year month day → jiff.days_from_civil year month day ≡ pos days → pos 1970 ≤ℤ year
late year month day days is e =
    by_lt_z year (pos 1970)
    (λ lt. absurd (omega (arith, signed_arith, e, day_count-lt_year year month day (pos 1970) 1 1 is (omega arith) lt, days_from_civil-day_count year month day, day_count-epoch)))
    (λ le. le)

pub numbered : (year : ℤ) (month day days : ℕ) → jiff.IsCivilDate year month day → jiff.days_from_civil year month day ≡ pos days → Numbered year month day days
numbered (pos n) month day days is e =
    let from : 1970 ≤ n = omega (arith, signed_arith, late (pos n) month day days is e) in
    let sum : 1970 + (n - 1970) ≡ n = omega arith in
    let years : jiff.day_count (pos n) 1 1 ≡ jiff.day_count (pos 1970) 1 1 + days_of_years 1970 (n - 1970) = rw sum at (year_sum (n - 1970) 1970) in
    record {
      plain = n;
      is = refl;
      late = from;
      sum = omega (arith, signed_arith, e, years, is.2, month_sum (month - 1) n, day_count-day_of_year (pos n) month day is.2.0, days_from_civil-day_count (pos n) month day, day_count-epoch);
    }
numbered (negsuc n) month day days is e = absurd (omega (arith, signed_arith, late (negsuc n) month day days is e))

-- The fields of a date that jiff shows.
pub record IsShown (shown : DateTime) (date : Civil) : Type 0 where
  pub year : date.year ≡ unsigned_abs shown.date.year
  pub month : date.month ≡ shown.date.month
  pub day : date.day ≡ shown.date.day
  pub hour : date.hour ≡ shown.time.hour
  pub minute : date.minute ≡ shown.time.minute
  pub second : date.second ≡ shown.time.second
  pub weekday : date.weekday ≡ (jiff_weekday shown.date + 1) % 7

shown_day : (shown : DateTime) (moment : ℕ) → civil_nanos shown ≡ pos (moment * 1000000000) → (epoch_day shown.date ≡ pos (moment / 86400)) × (shown.time.hour * 3600 + shown.time.minute * 60 + shown.time.second ≡ moment % 86400)
shown_day shown moment e = (omega (arith, signed_arith, e, civil_nanos-parts shown, time_nanos_bound shown.time), omega (arith, signed_arith, e, civil_nanos-parts shown, time_nanos_bound shown.time))

shown_number : (shown : DateTime) (moment : ℕ) → civil_nanos shown ≡ pos (moment * 1000000000) → Numbered shown.date.year shown.date.month shown.date.day (moment / 86400)
shown_number shown moment e =
    numbered shown.date.year shown.date.month shown.date.day (moment / 86400) (shown.date.year_in, shown.date.month_in, shown.date.day_in) (shown_day shown moment e).0

number_shown : (shown : DateTime) (moment : ℕ) (date : Civil) → IsShown shown date → Numbered shown.date.year shown.date.month shown.date.day (moment / 86400) → (date.year ≡ unsigned_abs shown.date.year) → day_number date ≡ moment / 86400
number_shown shown moment date is number year =
    let plain : date.year ≡ number.plain = year ∙ ap unsigned_abs number.is in
    rw (plain, is.month, is.day) number.sum

pub shown_seconds : (shown : DateTime) (moment : ℕ) (date : Civil) → civil_nanos shown ≡ pos (moment * 1000000000) → IsShown shown date → seconds_of date ≡ moment
shown_seconds shown moment date e is =
    let days = number_shown shown moment date is (shown_number shown moment e) is.year in
    rw days (omega (arith, is.hour, is.minute, is.second, (shown_day shown moment e).1))

pub shown_date : (shown : DateTime) (moment : ℕ) (date : Civil) → civil_nanos shown ≡ pos (moment * 1000000000) → IsShown shown date → IsDate date
shown_date shown moment date e is =
    let number = shown_number shown moment e in
    let plain : date.year ≡ number.plain = is.year ∙ ap unsigned_abs number.is in
    let length : shown.date.day ≤ days_in_month number.plain shown.date.month = rw number.is at shown.date.day_in.1 in
    let weekday : date.weekday ≡ weekday_of (moment / 86400) = is.weekday ∙ omega (arith, signed_arith, weekday_number-parts (epoch_day shown.date), (shown_day shown moment e).0) in
    record {
      year = omega (arith, plain, number.late);
      month = omega (arith, is.month, shown.date.month_in);
      day = (omega (arith, is.day, shown.date.day_in), rw (plain, is.month, is.day) length);
      hour = omega (arith, is.hour, shown.time.hour_in);
      minute = omega (arith, is.minute, shown.time.minute_in);
      second = omega (arith, is.second, shown.time.second_in);
      weekday = weekday ∙ ap weekday_of (sym (number_shown shown moment date is number is.year));
    }

pub date_shown : (shown : DateTime) (moment : ℕ) (date : Civil) → civil_nanos shown ≡ pos (moment * 1000000000) → IsShown shown date → date ≡ date_of moment
date_shown shown moment date e is = sym (is_its_own date (shown_date shown moment date e is)) ∙ ap date_of (shown_seconds shown moment date e is)

-- A number from 1970 on that jiff shows.
pub year_shown : (shown : DateTime) (moment : ℕ) → civil_nanos shown ≡ pos (moment * 1000000000) → (year : ℕ) × (shown.date.year ≡ pos year) × (year ≤ 9999)
year_shown shown moment e =
    let number = shown_number shown moment e in
    (number.plain, number.is, omega (arith, signed_arith, number.is, shown.date.year_in))

pub cast8 : (z : ℤ) (n : ℕ) → z ≡ pos n → n < 128 → nat_abs (to_z w8 (of_z w8 z)) ≡ n
cast8 z n e few = rw e (ap nat_abs (back_small w8 (pos n) few))

pub whole16 : (z : ℤ) (n : ℕ) → z ≡ pos n → n < 32768 → to_z w16 (of_z w16 z) ≡ pos n
whole16 z n e few = rw e (back_small w16 (pos n) few)

pub cast16 : (z : ℤ) (n : ℕ) → z ≡ pos n → n < 32768 → nat_abs (to_z w16 (of_z w16 z)) ≡ n
cast16 z n e few = ap nat_abs (whole16 z n e few)

-- A moment as jiff takes it.
pub nanos_from : (shown : DateTime) (moment : ℕ) (instant : ℤ) → IsInTime moment → instant ≡ to_z w64 moment *ℤ pos 1000000000 +ℤ pos 0 → civil_nanos shown ≡ instant +ℤ pos 0 → civil_nanos shown ≡ pos (moment * 1000000000)
nanos_from shown moment instant few taken e =
    let plain : to_z w64 moment ≡ pos moment = to_z_pos w64 moment (omega arith) in
    omega (arith, signed_arith, e, rw plain at taken)

-- The years and months that are gone through to a day, and the days in them.
use Rattle.std.proofs.Common.{◌≡◌, ℕ, zero, suc, ◌+◌, ◌-◌, ◌<◌, ◌≤◌, ltb, refl, sym, ◌∙◌, arith}
use Rattle.std.proofs.lemmas.Bool.{cond-true, cond-false, cond_both, lt-ltb, le-ltb, ltb-true, ltb-false}
use Rattle.rad_dates.specs.Calendar.{days_in_year, days_in_month, days_of_years, days_of_months}
use Rattle.rad_dates.specs.Dates.{year_at, month_at}

both : (a b c d : ℕ) → a ≡ c → b ≡ d → ◌≡◌ {A = ℕ × ℕ} (a, b) (c, d)
both a b c d e f = rw (e, f) refl

pub year_long : (year : ℕ) → 365 ≤ days_in_year year
year_long year = grind arith

-- So many years have as many days at least.
pub years_long : (count year : ℕ) → count ≤ days_of_years year count
unfolding days_of_years
years_long zero year = omega arith
years_long (suc count) year = omega (arith, year_long year, years_long count (year + 1))

pub year_months : (year : ℕ) → days_of_months year 1 12 ≡ days_in_year year
unfolding days_of_months
year_months year = grind arith

-- A day of a year that is so many years on.
pub year_found : (count turns year days rest final : ℕ) → count ≤ turns → days ≡ days_of_years year count + rest → rest < days_in_year final → final ≡ year + count → year_at turns year days ≡ (final, rest)
unfolding year_at days_of_years
year_found zero zero year days rest final low is within sum = both year days final rest (omega arith) (omega arith)
year_found zero (suc turns) year days rest final low is within sum =
    let here : final ≡ year = omega arith in
    let same : days ≡ rest = omega arith in
    let lt : days < days_in_year year = rw (same, sym here) within in
    cond-true _ _ _ (lt-ltb days (days_in_year year) lt) ∙ both year days final rest (sym here) same
year_found (suc count) zero year days rest final low is within sum = absurd (omega arith)
year_found (suc count) (suc turns) year days rest final low is within sum =
    cond-false _ _ _ (le-ltb days (days_in_year year) (omega arith))
    ∙ year_found count turns (year + 1) (days - days_in_year year) rest final (omega arith) (omega arith) within (omega arith)

-- The same of months.
pub month_found : (count turns year month days rest final : ℕ) → count ≤ turns → days ≡ days_of_months year month count + rest → rest < days_in_month year final → final ≡ month + count → month_at year turns month days ≡ (final, rest)
unfolding month_at days_of_months
month_found zero zero year month days rest final low is within sum = both month days final rest (omega arith) (omega arith)
month_found zero (suc turns) year month days rest final low is within sum =
    let here : final ≡ month = omega arith in
    let same : days ≡ rest = omega arith in
    let lt : days < days_in_month year month = rw (same, sym here) within in
    cond-true _ _ _ (lt-ltb days (days_in_month year month) lt) ∙ both month days final rest (sym here) same
month_found (suc count) zero year month days rest final low is within sum = absurd (omega arith)
month_found (suc count) (suc turns) year month days rest final low is within sum =
    cond-false _ _ _ (le-ltb days (days_in_month year month) (omega arith))
    ∙ month_found count turns year (month + 1) (days - days_in_month year month) rest final (omega arith) (omega arith) within (omega arith)

-- What going through years from one on has found: a year so many on, and a day of it.
pub record YearWalk (from days : ℕ) (found : ℕ × ℕ) : Type 0 where
  pub count : ℕ
  pub year : found.0 ≡ from + count
  pub rest : found.1 < days_in_year found.0
  pub sum : days ≡ days_of_years from count + found.1

pub year_walk : (turns year days : ℕ) → days ≤ turns → YearWalk year days (year_at turns year days)
unfolding year_at days_of_years
year_walk zero year days low = record { count = 0; year = omega arith; rest = omega (arith, year_long year); sum = omega arith }
year_walk (suc turns) year days low =
    cond_both (ltb days (days_in_year year)) (year, days) (year_at turns (year + 1) (days - days_in_year year)) (λ (found : ℕ × ℕ). YearWalk year days found)
    (λ e. record { count = 0; year = omega arith; rest = ltb-true days (days_in_year year) e; sum = omega arith })
    (λ e. on (ltb-false days (days_in_year year) e) (year_walk turns (year + 1) (days - days_in_year year) (omega (arith, year_long year))))
  where
    on : {found : ℕ × ℕ} → days_in_year year ≤ days → YearWalk (year + 1) (days - days_in_year year) found → YearWalk year days found
    on {found} more walk = record { count = suc walk.count; year = omega (arith, walk.year); rest = walk.rest; sum = omega (arith, walk.sum) }

-- The same of months of one year.
pub record MonthWalk (year turns from days : ℕ) (found : ℕ × ℕ) : Type 0 where
  pub count : ℕ
  pub few : count ≤ turns
  pub month : found.0 ≡ from + count
  pub rest : found.1 < days_in_month year found.0
  pub sum : days ≡ days_of_months year from count + found.1

pub month_walk : (turns year month days : ℕ) → days < days_of_months year month (suc turns) → MonthWalk year turns month days (month_at year turns month days)
unfolding month_at days_of_months
month_walk zero year month days low = record { count = 0; few = omega arith; month = omega arith; rest = omega arith; sum = omega arith }
month_walk (suc turns) year month days low =
    cond_both (ltb days (days_in_month year month)) (month, days) (month_at year turns (month + 1) (days - days_in_month year month)) (λ (found : ℕ × ℕ). MonthWalk year (suc turns) month days found)
    (λ e. record { count = 0; few = omega arith; month = omega arith; rest = ltb-true days (days_in_month year month) e; sum = omega arith })
    (λ e. let more = ltb-false days (days_in_month year month) e in on more (month_walk turns year (month + 1) (days - days_in_month year month) (omega arith)))
  where
    on : {found : ℕ × ℕ} → days_in_month year month ≤ days → MonthWalk year turns (month + 1) (days - days_in_month year month) found → MonthWalk year (suc turns) month days found
    on {found} more walk = record { count = suc walk.count; few = omega (arith, walk.few); month = omega (arith, walk.month); rest = walk.rest; sum = omega (arith, walk.sum) }

-- A day of a month lies within the months up to a later one.
pub month_within : (count more total year month days : ℕ) → total ≡ count + suc more → days < days_in_month year (month + count) → days_of_months year month count + days < days_of_months year month total
unfolding days_of_months
month_within count more zero year month days sum within = absurd (omega arith)
month_within zero more (suc total) year month days sum within =
    let here : month + 0 ≡ month = omega arith in
    let lt : days < days_in_month year month = rw (sym here) within in
    omega arith
month_within (suc count) more (suc total) year month days sum within =
    let there : month + suc count ≡ month + 1 + count = omega arith in
    let lt : days < days_in_month year (month + 1 + count) = rw (sym there) within in
    omega (arith, month_within count more total year (month + 1) days (omega arith) lt)

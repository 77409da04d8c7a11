-- A moment as text in UTC, as asctime(3) has it, without the newline.
use Rattle.std.specs.Prelude.{ℕ, ◌-◌, ◌*◌, List, [], ◌∷◌, ◌++◌, take, drop, codes}
use Rattle.std.specs.Fmt.{decimal}
use Rattle.rad_dates.specs.declared.civil.Civil.{Civil}
use Rattle.rad_dates.specs.Dates.{date_of}
use Rattle.rad_dates.specs.Padded.{right_in, digits_in}

-- The name at a place, from 0, among names of three letters, and a blank.
abbrev pub name_then : List ℕ → ℕ → List ℕ
name_then names place = take 3 (drop (3 * place) names) ++ 32 ∷ []

-- The name of a weekday, from 0 for Sunday, and a blank.
unfoldable pub weekday_then : ℕ → List ℕ
weekday_then weekday = name_then (codes "SunMonTueWedThuFriSat") weekday

-- The name of a month, from 1, and a blank.
unfoldable pub month_then : ℕ → List ℕ
month_then month = name_then (codes "JanFebMarAprMayJunJulAugSepOctNovDec") (month - 1)

-- Three numbers of two digits or more, with a mark between two of them.
abbrev pub joined_by : ℕ → List ℕ → List ℕ → List ℕ → List ℕ
joined_by mark one two three = one ++ mark ∷ (two ++ mark ∷ three)

-- A time of day as `00:16:40`.
abbrev pub time_text : Civil → List ℕ
time_text date = joined_by 58 (digits_in 2 date.hour) (digits_in 2 date.minute) (digits_in 2 date.second)

-- A date as `Thu Jan  1`: weekday, month and day, the last at the right of two places.
abbrev pub day_text : Civil → List ℕ
day_text date = weekday_then date.weekday ++ (month_then date.month ++ right_in 32 2 (decimal date.day))

-- A date and time as `Thu Jan  1 00:16:40 1970`.
unfoldable pub stamp_text : Civil → List ℕ
stamp_text date = day_text date ++ 32 ∷ (time_text date ++ 32 ∷ digits_in 4 date.year)

-- A moment as such a text.
abbrev pub stamp : ℕ → List ℕ
stamp moment = stamp_text (date_of moment)

-- A date and time as `1970-01-01 00:16:40` (ISO 8601 but for the blank).
unfoldable pub date_time_text : Civil → List ℕ
date_time_text date = joined_by 45 (digits_in 4 date.year) (digits_in 2 date.month) (digits_in 2 date.day) ++ 32 ∷ time_text date

use Rattle.std.proofs.Common.{◌≡◌, ℕ, ◌+◌, ◌%◌, arith, pos, sym, ap, ◌∙◌, to_z, of_z, w8, w16, nat_abs, unsigned_abs}
use Rattle.jiff_core.specs.declared.civil.datetime.DateTime.{DateTime}
use Rattle.jiff_core.proofs.CalendarLemmas.{days_in_month_bounds}
use Rattle.rad_dates.proofs.Shown.{IsShown, shown_date, date_shown, year_shown, cast8, cast16, whole16, nanos_from}
use Rattle.rad_dates.proofs.civil.date_of.Goals as goal

is_shown : (c : goal.After-to_sunday_zero_offset) → IsShown c.to_datetime-shown.result (record {
  year = nat_abs (to_z w16 (of_z w16 c.year.result));
  month = nat_abs (to_z w8 (of_z w8 c.month.result));
  day = nat_abs (to_z w8 (of_z w8 c.day.result));
  hour = nat_abs (to_z w8 (of_z w8 c.hour.result));
  minute = nat_abs (to_z w8 (of_z w8 c.minute.result));
  second = nat_abs (to_z w8 (of_z w8 c.second.result));
  weekday = nat_abs (to_z w8 (of_z w8 c.to_sunday_zero_offset.result));
})
is_shown c =
    let shown : DateTime = c.to_datetime-shown.result in
    let year = year_shown shown c.args.moment (nanos_from c.to_datetime-shown.result c.args.moment c.constant.result.nanosecond c.requires c.constant.ensures c.to_datetime-shown.ensures) in
    record {
      year = cast16 c.year.result year.0 (c.year.ensures ∙ year.1) (omega (arith, year.2)) ∙ sym (ap unsigned_abs year.1);
      month = cast8 _ _ c.month.ensures (omega (arith, shown.date.month_in));
      day = cast8 _ _ c.day.ensures (omega (arith, shown.date.day_in.1, days_in_month_bounds shown.date.year shown.date.month));
      hour = cast8 _ _ c.hour.ensures (omega (arith, shown.time.hour_in));
      minute = cast8 _ _ c.minute.ensures (omega (arith, shown.time.minute_in));
      second = cast8 _ _ c.second.ensures (omega (arith, shown.time.second_in));
      weekday = cast8 _ _ c.to_sunday_zero_offset.ensures.value (omega arith) ∙ ap (λ (n : ℕ). (n + 1) % 7) c.weekday.ensures;
    }

pub overflow_cast-result : goal.overflow_cast-result
overflow_cast-result c =
    let year = year_shown c.to_datetime-shown.result c.args.moment (nanos_from c.to_datetime-shown.result c.args.moment c.constant.result.nanosecond c.requires c.constant.ensures c.to_datetime-shown.ensures) in
    let same : to_z w16 (of_z w16 c.year.result) ≡ pos year.0 = whole16 c.year.result year.0 (c.year.ensures ∙ year.1) (omega (arith, year.2)) in
    rw same (tt, omega (arith, year.2))

pub returns-clause-exact : goal.returns-clause-exact
returns-clause-exact c = date_shown c.to_datetime-shown.result c.args.moment _ (nanos_from c.to_datetime-shown.result c.args.moment c.constant.result.nanosecond c.requires c.constant.ensures c.to_datetime-shown.ensures) (is_shown c)

pub returns-clause-date : goal.returns-clause-date
returns-clause-date c = shown_date c.to_datetime-shown.result c.args.moment _ (nanos_from c.to_datetime-shown.result c.args.moment c.constant.result.nanosecond c.requires c.constant.ensures c.to_datetime-shown.ensures) (is_shown c)

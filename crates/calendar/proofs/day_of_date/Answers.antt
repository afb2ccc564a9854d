-- `calendar::day_of_date` meets its contract. Assumes nothing.
use Rattle.std.proofs.Common.{arith, sym, ◌∙◌}
use Rattle.prices.proofs.Numbering.{days_of_a_month}
use Rattle.prices.proofs.Calendar.{not_in_calendar, year_before, year_past}
use Rattle.calendar.proofs.Months.{months_alike}
use Rattle.calendar.proofs.Answers.{refused, counted_small, counted_past, counted_in_range}
use Rattle.calendar.proofs.day_of_date.Goals as goal
use Rattle.calendar.proofs.day_of_date.Goals.{then-month-eq0-via-then-month-eq0, then-month-eq0-via-else-month-eq0+then-month-gt-MONTHS, then-month-eq0-via-else-month-eq0+else-month-gt-MONTHS+then-day-eq0, then-month-eq0-via-else-month-eq0+else-month-gt-MONTHS+else-day-eq0+then-days_in-day}
use Rattle.calendar.proofs.day_of_date.Goals.{then-year-lt-FIRST_YEAR-via-then-year-lt-FIRST_YEAR, then-year-lt-FIRST_YEAR-via-else-year-lt-FIRST_YEAR+then-year-gt-LAST_YEAR}

pub returns-then-month-eq0 : goal.returns-then-month-eq0
returns-then-month-eq0 c = refused _ (not_in_calendar _ λ h. elim c.then-month-eq0.branch [
  | then-month-eq0-via-then-month-eq0 w ↦ omega (arith, h.month_from)
  | then-month-eq0-via-else-month-eq0+then-month-gt-MONTHS w ↦ omega (arith, h.month_to)
  | then-month-eq0-via-else-month-eq0+else-month-gt-MONTHS+then-day-eq0 w ↦ omega (arith, h.day_from)
  | then-month-eq0-via-else-month-eq0+else-month-gt-MONTHS+else-day-eq0+then-days_in-day w ↦
      omega (arith, h.day_to, w.days_in.ensures)
])

pub returns-then-year-lt-FIRST_YEAR : goal.returns-then-year-lt-FIRST_YEAR
returns-then-year-lt-FIRST_YEAR c = refused _ (elim c.then-year-lt-FIRST_YEAR.branch [
  | then-year-lt-FIRST_YEAR-via-then-year-lt-FIRST_YEAR w ↦ year_before _ w.if-year-lt-FIRST_YEAR.true
  | then-year-lt-FIRST_YEAR-via-else-year-lt-FIRST_YEAR+then-year-gt-LAST_YEAR w ↦
      year_past _ w.if-year-gt-LAST_YEAR.true
])

pub overflow_add-n : goal.overflow_add-n
overflow_add-n c =
    let before = c.month_start.ensures ∙ months_alike _ _ _ (sym c.is_leap.ensures) in
    omega (arith, counted_small _ _ c.year_start.ensures before c.if-year-gt-LAST_YEAR.false c.if-month-gt-MONTHS.false)

pub overflow_add-n-2 : goal.overflow_add-n-2
overflow_add-n-2 c =
    let before = c.month_start.ensures ∙ months_alike _ _ _ (sym c.is_leap.ensures) in
    omega (
      arith,
      counted_small _ _ c.year_start.ensures before c.if-year-gt-LAST_YEAR.false c.if-month-gt-MONTHS.false,
      days_of_a_month c.args.year c.args.month,
    )

pub returns-then-n-gt-LAST_DAY : goal.returns-then-n-gt-LAST_DAY
returns-then-n-gt-LAST_DAY c = counted_past _ _ _ c.year_start.ensures
    (c.month_start.ensures ∙ months_alike _ _ _ (sym c.is_leap.ensures)) c.if-n-gt-LAST_DAY.true

pub returns : goal.returns
returns c = counted_in_range _ _ _ c.year_start.ensures
    (c.month_start.ensures ∙ months_alike _ _ _ (sym c.is_leap.ensures))
    (record {
      month_from = omega arith;
      month_to = c.if-month-gt-MONTHS.false;
      day_from = omega arith;
      day_to = omega (arith, c.days_in.ensures);
    }) c.if-year-lt-FIRST_YEAR.false c.if-n-gt-LAST_DAY.false

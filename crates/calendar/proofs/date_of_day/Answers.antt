-- `calendar::date_of_day` meets its contract. Assumes nothing.
use Rattle.std.proofs.Common.{sym, ◌∙◌}
use Rattle.prices.specs.Calendar.{months}
use Rattle.calendar.proofs.Months.{months_alike, month_alike}
use Rattle.calendar.proofs.Answers.{day_past, rest_in_year, found}
use Rattle.calendar.proofs.date_of_day.Goals as goal

pub returns-then-day-gt-LAST_DAY : goal.returns-then-day-gt-LAST_DAY
returns-then-day-gt-LAST_DAY c = day_past _ c.if-day-gt-LAST_DAY.true

pub find_month-month-requires : goal.find_month-month-requires
find_month-month-requires c = rw (months_alike _ months _ (sym c.is_leap-leap.ensures))
    (rest_in_year c.find_year-y.ensures c.year_start.ensures)

pub returns : goal.returns
returns c = let leap = sym c.is_leap-leap.ensures in
    found _ _ _ c.find_year-y.ensures
    c.year_start.ensures
    (month_alike _ _ leap c.find_month-month.ensures)
    (c.month_start.ensures ∙ months_alike _ _ _ leap) c.if-day-gt-LAST_DAY.false

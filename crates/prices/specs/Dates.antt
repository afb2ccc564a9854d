-- The words of the demands on the calendar (document 02, §11): dates in the calendar, their order and their range. The
-- numbers are written out here, so that the demands do not follow the definitions if those have others.
use Rattle.std.specs.Prelude.{◌≡◌, ◌≢◌, ℕ, ◌≤◌, ◌<◌}
use Rattle.language.specs.Limits.{no_line}
use Rattle.prices.specs.Calendar.{Date, date, days_in, date_of}

-- The month is one of a year's, and the day one of the month's.
pub record InCalendar (d : Date) : Type 0 where
  pub month_from : 1 ≤ d.month
  pub month_to : d.month ≤ 12
  pub day_from : 1 ≤ d.day
  pub day_to : d.day ≤ days_in d.year d.month

-- By year, then by month, then by day.
pub data Earlier (a b : Date) : Type 0 where
  by_year : a.year < b.year → Earlier a b
  by_month : a.year ≡ b.year → a.month < b.month → Earlier a b
  by_day : a.year ≡ b.year → a.month ≡ b.month → a.day < b.day → Earlier a b

-- A date of the calendar, not before 2000-01-01 and not after 2179-06-06.
pub record InRange (d : Date) : Type 0 where
  pub in_calendar : InCalendar d
  pub not_before : ¬ Earlier d (date 2000 1 1)
  pub not_after : ¬ Earlier (date 2179 6 6) d

-- No day from 0 to 65,535 has this date, and the refusal that says so is 24 on no line.
pub record HasNoDay (d : Date) (number line : ℕ) : Type 0 where
  pub number_is : number ≡ 24
  pub line_is : line ≡ no_line
  pub none_has : (n : ℕ) → n ≤ 65535 → date_of n ≢ d

-- There is no such month, or one of its dates is out of range.
pub data MonthWithoutDays (year month : ℕ) : Type 0 where
  month_zero : month ≡ 0 → MonthWithoutDays year month
  month_past : 12 < month → MonthWithoutDays year month
  out_of_range : (day : ℕ) → InCalendar (date year month day) → ¬ InRange (date year month day)
      → MonthWithoutDays year month

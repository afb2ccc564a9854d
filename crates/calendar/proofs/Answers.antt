-- The answers of the two conversions from what the code has counted. Assumes nothing.
use mathlib.Core.Path.{◌≡◌, sym, ap, ◌∙◌}
use Prim.Native.Nat.{ℕ, ◌+◌, ◌-◌, ◌≤◌, ◌<◌}
use native.Mathlib.Omega.{arith}
use borrow.Author.Tests.{le-leb, lt-leb}
use Rattle.language.specs.Limits.{no_line}
use Rattle.language.specs.Results.{refuse, require}
use Rattle.std.specs.Prelude.{Ok, Err}
use Rattle.language.specs.Refusals.{refusal}
use Rattle.prices.specs.Calendar.{date, date_refusal, last_day, months, date_of, day_of}
use Rattle.prices.specs.declared.Date.{Date}
use Rattle.prices.specs.Calendar.{told_day, day_answer, date_answer}
use Rattle.prices.specs.Dates.{InCalendar}
use Rattle.prices.specs.Numbering.{first_year, year_start, month_start, day_number}
use Rattle.prices.proofs.Numbering.{months_of_year, month_step}
use Rattle.prices.proofs.DateOrder.{date_of_number}
use Rattle.prices.proofs.Calendar.{day_by_number, number_past}
use Rattle.calendar.proofs.Counting.{years_most}
use Rattle.calendar.proofs.Months.{months_most}
use Rattle.calendar.specs.Found.{YearOf, MonthOf}

-- The refusal of a date as an answer.
pub refused : (d : Date) → day_of d ≡ refuse date_refusal no_line → Err (refusal 24 0) ≡ told_day (day_of d)
refused d e = rw e

-- The days before a month of the years up to 2179 are far fewer than a machine number holds.
pub counted_small : (y m : ℕ) {years before : ℕ} → years ≡ year_start (y - first_year)
    → before ≡ month_start y (m - 1) → y ≤ 2179 → m ≤ months → years + before ≤ 66000
counted_small y m e f h k = omega (arith, years_most (y - first_year), months_most y (m - 1))

-- The number that the code counts for a date.
module _ (y m d : ℕ) {years before : ℕ}
    (e : years ≡ year_start (y - first_year)) (f : before ≡ month_start y (m - 1)) where
  counted : years + before + (d - 1) ≡ day_number (date y m d)
  unfolding day_number
  counted = rw (e, f)

  pub counted_past : last_day < years + before + (d - 1) → Err (refusal 24 0) ≡ day_answer y m d
  counted_past l = refused (date y m d) (number_past (date y m d) (rw counted at l))

  pub counted_in_range : InCalendar (date y m d) → first_year ≤ y → years + before + (d - 1) ≤ last_day
      → Ok (years + before + (d - 1)) ≡ day_answer y m d
  counted_in_range h from l = rw (day_by_number (date y m d) h from (rw counted at l), counted)

-- A day out of range has no date.
pub day_past : (n : ℕ) → last_day < n → Err (refusal 24 0) ≡ date_answer n
unfolding require
day_past n h = rw (lt-leb n last_day h)

-- The days of a year before one of its days are fewer than the year's.
pub rest_in_year : {n y years : ℕ} → YearOf n y → years ≡ year_start y
    → n - years < month_start (first_year + y) months
unfolding year_start
rest_in_year {y} h e = rw (months_of_year (first_year + y)) (omega (arith, e, h.from, h.to))

-- The year, the month and the day that the code finds are the date of the day.
module _ (n y m : ℕ) {years before : ℕ}
    (h : YearOf n y) (e : years ≡ year_start y)
    (k : MonthOf (first_year + y) (n - years) m) (f : before ≡ month_start (first_year + y) (m - 1)) where
  in_calendar : InCalendar (date (first_year + y) m (n - years - before + 1))
  in_calendar = let s = month_step (first_year + y) m k.month_from in record {
    month_from = k.month_from;
    month_to = k.month_to;
    day_from = omega arith;
    day_to = omega (arith, s, k.from, k.to, f);
  }

  number_is : day_number (date (first_year + y) m (n - years - before + 1)) ≡ n
  unfolding day_number
  number_is = let g : first_year + y - first_year ≡ y = omega arith in
      rw (g, ← e, ← f) (omega (arith, h.from, e, k.from, f))

  found_date : date_of n ≡ date (first_year + y) m (n - years - before + 1)
  found_date = ap date_of (sym number_is) ∙ date_of_number _ in_calendar (omega arith)

  pub found : n ≤ last_day → Ok (date (first_year + y) m (n - years - before + 1)) ≡ date_answer n
  unfolding require
  found l = rw (le-leb n last_day l, found_date)

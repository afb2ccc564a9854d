-- The demands on days and dates (document 02, §11: "Days count from 2000-01-01 as 0, up to 65,535, by the Gregorian
-- calendar", "converted either way for every day number"). The words are in PriceWords and in the file Dates of the crate
-- prices; the proofs are in the files cited.
use mathlib.Core.Path.{◌≡◌, refl}
use mathlib.Core.Logic.{◌↔◌, ◌≢◌, ◌⊎◌}
use mathlib.Core.Bool.{true, cond}
use mathlib.Core.List.{[], ◌∷◌, map}
use Prim.Native.Nat.{ℕ, ◌%◌, ◌≤◌, ◌<◌}
use Rattle.std.specs.Prelude.{Ok, Err}
use Rattle.language.specs.Refusals.{refusal}
use Rattle.language.specs.Limits.{no_line}
use Rattle.language.specs.Results.{accept, refuse}
use Rattle.prices.specs.Calendar.{date, is_leap, days_in, date_of, day_of, day_answer, date_answer}
use Rattle.prices.specs.declared.Date.{Date}
use Rattle.prices.specs.Dates.{InCalendar, Earlier, InRange, HasNoDay, MonthWithoutDays}
use Rattle.prices.specs.Numbering.{day_number}
use Rattle.prices.specs.Reports.{Days, month_days}
use Rattle.prices.proofs.Numbering.{date_in_calendar, days_of_a_month}
use Rattle.prices.proofs.DateOrder.{date_of_number, order_kept}
use Rattle.prices.proofs.Calendar.{day_of_date_of, date_of_day_of, day_refused, range_of_dates, date_of_last}
use Rattle.promises.specs.PriceWords.{largest_day, bad_date, DaysOf}
use Rattle.promises.proofs.prices.CalendarAnswers.{leap_is, day_told, day_not_told, date_told, date_not_told}
use Rattle.promises.proofs.prices.CalendarAnswers.{told_back}
use Rattle.promises.proofs.prices.MonthDays.{month_is, month_is_refused, month_count}

-- A leap year is a multiple of 400, or a multiple of 4 that is not a multiple of 100.
pub leap_years : (year : ℕ)
    → (is_leap year ≡ true) ↔ ((year % 400 ≡ 0) ⊎ ((year % 4 ≡ 0) × (year % 100 ≢ 0)))
leap_years = leap_is

-- The months from January to December have 31, 28 (29 in a leap year), 31, 30, 31, 30, 31, 31, 30, 31, 30 and 31 days.
pub lengths_of_months : (year : ℕ)
    → map (days_in year) (1 ∷ 2 ∷ 3 ∷ 4 ∷ 5 ∷ 6 ∷ 7 ∷ 8 ∷ 9 ∷ 10 ∷ 11 ∷ 12 ∷ [])
    ≡ 31 ∷ cond (is_leap year) 29 28 ∷ 31 ∷ 30 ∷ 31 ∷ 30 ∷ 31 ∷ 31 ∷ 30 ∷ 31 ∷ 30 ∷ 31 ∷ []
unfolding days_in
lengths_of_months year = refl

-- The two conversions are inverse to each other. A day in range is the day of its date;
pub day_of_its_date : (n : ℕ) → n ≤ largest_day → day_of (date_of n) ≡ accept n
day_of_its_date = day_of_date_of

-- and a date that has a day is the date of that day, which is in range.
pub date_of_its_day : (d : Date) (n : ℕ) → day_of d ≡ accept n → (n ≤ largest_day) × (date_of n ≡ d)
date_of_its_day = date_of_day_of

-- A date is refused with 24 on no line exactly if no day from 0 to 65,535 has it.
pub day_refusals : (d : Date) (n k : ℕ) → (day_of d ≡ refuse n k) ↔ HasNoDay d n k
day_refusals = day_refused

-- Every day's date is in the calendar, and every date of the calendar from 2000 on is some day's.
pub dates_in_calendar : (n : ℕ) → InCalendar (date_of n)
dates_in_calendar = date_in_calendar

pub calendar_has_days : (d : Date) → InCalendar d → 2000 ≤ d.year → date_of (day_number d) ≡ d
calendar_has_days = date_of_number

-- Day 0 is 2000-01-01, and day 65,535 is 2179-06-06.
pub date_of_first_day : date_of 0 ≡ date 2000 1 1
unfolding date_of
date_of_first_day = refl

pub date_of_last_day : date_of 65535 ≡ date 2179 6 6
date_of_last_day = date_of_last

-- A date has a day exactly if it is in the calendar, not before 2000-01-01 and not after 2179-06-06.
pub dates_with_days : (d : Date) → ((n : ℕ) × (day_of d ≡ accept n)) ↔ InRange d
dates_with_days = range_of_dates

-- A day is before another exactly if its date is earlier.
pub dates_in_order : (n m : ℕ) → (n < m) ↔ Earlier (date_of n) (date_of m)
dates_in_order = order_kept

-- The days of a month are exactly those whose dates have its year and month, all in range; there are as many as the
-- calendar has in the month, 28 to 31.
pub month_exact : (year month : ℕ) (days : Days)
    → (month_days year month ≡ accept days) ↔ DaysOf year month days
month_exact = month_is

pub month_length : (year month : ℕ) (days : Days) → month_days year month ≡ accept days
    → days.count ≡ days_in year month
month_length = month_count

pub month_lengths : (year month : ℕ) → (28 ≤ days_in year month) × (days_in year month ≤ 31)
month_lengths = days_of_a_month

-- A month is refused with 24 on no line exactly if there is no such month or one of its dates is out of
-- range.
pub month_refusals : (year month n k : ℕ) → (month_days year month ≡ refuse n k)
    ↔ ((n ≡ bad_date) × (k ≡ no_line) × MonthWithoutDays year month)
month_refusals = month_is_refused

-- What the services return. For a date it is a day exactly if that is in range and has the date; else it is 24 on no
-- line.
pub day_answered : (year month day n : ℕ)
    → (day_answer year month day ≡ Ok n) ↔ ((n ≤ largest_day) × (date_of n ≡ date year month day))
day_answered = day_told

pub day_answer_refused : (year month day n k : ℕ)
    → (day_answer year month day ≡ Err (refusal n k)) ↔ HasNoDay (date year month day) n k
day_answer_refused = day_not_told

-- For a day it is the day's date exactly if the day is in range; else it is 24 on no line.
pub date_answered : (n year month day : ℕ)
    → (date_answer n ≡ Ok (date year month day)) ↔ ((n ≤ largest_day) × (date_of n ≡ date year month day))
date_answered = date_told

pub date_answer_refused : (n a b : ℕ)
    → (date_answer n ≡ Err (refusal a b)) ↔ ((a ≡ bad_date) × (b ≡ no_line) × (largest_day < n))
date_answer_refused = date_not_told

-- A day is returned for a date exactly if the date is returned for the day.
pub answers_inverse : (year month day n : ℕ)
    → (day_answer year month day ≡ Ok n) ↔ (date_answer n ≡ Ok (date year month day))
answers_inverse = told_back

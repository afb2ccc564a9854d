-- The Gregorian calendar from 2000-01-01 on
-- (document 02, §11: "Days count from 2000-01-01 as 0, up to 65,535, by the Gregorian calendar").
-- A date is three numbers, which need not be in the calendar. Day 0 is 2000-01-01, and the day after a day has the
-- calendar's next date.
use Rattle.std.specs.Prelude.{Bool, true, false, cond, ◌&&◌, ◌||◌, ℕ, zero, suc, ◌%◌, eqb, leb, ltb, Result}
use Rattle.language.specs.Limits.{no_line}
use Rattle.language.specs.Lists.{choice}
use Rattle.language.specs.Results.{Checked, accept, refuse, require}
use Rattle.language.specs.Refusals.{result_of}
use Rattle.language.specs.declared.Refusal.{Refusal}
pub use Rattle.prices.specs.declared.Date.{Date}

-- The refusal of a day or date that is not in the calendar or range, the last day of the range, the months of a year.
abbrev pub date_refusal : ℕ
date_refusal = 24

abbrev pub last_day : ℕ
last_day = 65535

abbrev pub months : ℕ
months = 12

abbrev pub date : ℕ → ℕ → ℕ → Date
date y m d = record { year = y; month = m; day = d }

-- Every fourth year is a leap year; of those that end a century only every fourth.
unfoldable pub is_leap : ℕ → Bool
is_leap year = cond (eqb (year % 400) 0) true (cond (eqb (year % 100) 0) false (eqb (year % 4) 0))

-- April, June, September and November have 30 days, February 28 or in a leap year 29, the others 31.
abbrev pub has_30_days : ℕ → Bool
has_30_days month = eqb month 4 || (eqb month 6 || (eqb month 9 || eqb month 11))

unfoldable pub days_in : ℕ → ℕ → ℕ
days_in year month =
    cond (eqb month 2) (cond (is_leap year) 29 28) (cond (has_30_days month) 30 31)

-- The calendar's next date.
unfoldable pub next : Date → Date
next d = cond (ltb d.day (days_in d.year d.month))
    (date d.year d.month (suc d.day))
    (cond (ltb d.month months) (date d.year (suc d.month) 1) (date (suc d.year) 1 1))

abbrev pub first_date : Date
first_date = date 2000 1 1

-- The date of a day.
unfoldable pub date_of : ℕ → Date
date_of zero = first_date
date_of (suc n) = next (date_of n)

abbrev pub same_date : Date → Date → Bool
same_date a b = eqb a.year b.year && (eqb a.month b.month && eqb a.day b.day)

-- The day with a date: looked for from day n, whose date is `here`, over `left` days; 24 where none of them has it.
unfoldable pub day_from : ℕ → ℕ → Date → Date → Checked ℕ
day_from zero n here d = refuse date_refusal no_line
day_from (suc left) n here d =
    choice (same_date here d) (λ _. accept n) (λ _. day_from left (suc n) (next here) d)

-- It is looked for in the whole range.
unfoldable pub day_of : Date → Checked ℕ
day_of d = day_from (suc last_day) 0 first_date d

-- A day's number that must be in range.
abbrev pub day_in_range : ℕ → Checked ℕ
day_in_range n = require (leb n last_day) date_refusal no_line λ _. accept n

-- What the two conversions return.
abbrev pub told_day : Checked ℕ → Result ℕ Refusal
told_day day = result_of (λ n. n) day

abbrev pub told_date : Checked ℕ → Result Date Refusal
told_date day = result_of date_of day

abbrev pub day_answer : ℕ → ℕ → ℕ → Result ℕ Refusal
day_answer y m d = told_day (day_of (date y m d))

abbrev pub date_answer : ℕ → Result Date Refusal
date_answer n = told_date (day_in_range n)

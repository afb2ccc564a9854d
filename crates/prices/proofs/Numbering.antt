-- Dates in the calendar are numbered one by one: the next date has the next number. Assumes nothing.
use mathlib.Core.Path.{◌≡◌, refl, ap, ◌∙◌}
use mathlib.Core.Bool.{Bool, true, false, cond}
use Prim.Native.Nat.{ℕ, zero, suc, ◌+◌, ◌-◌, ◌≤◌, ◌<◌}
use native.Mathlib.Omega.{arith}
use borrow.Author.Tests.{ltb-true, ltb-false}
use lib.Dec.{eqb, ltb}
use Rattle.prices.specs.Calendar.{Date, date, months, first_date}
use Rattle.prices.specs.Calendar.{is_leap, has_30_days, days_in, next, date_of}
use Rattle.prices.specs.Dates.{InCalendar}
use Rattle.prices.specs.Numbering.{first_year, days_of_year, year_start, month_start, day_number}

-- A month has from 28 to 31 days.
pub days_of_a_month : (y m : ℕ) → (28 ≤ days_in y m) × (days_in y m ≤ 31)
unfolding days_in
days_of_a_month y m = go (eqb m 2) (is_leap y) (has_30_days m)
  where
    go : (a b c : Bool) → (28 ≤ cond a (cond b 29 28) (cond c 30 31))
        × (cond a (cond b 29 28) (cond c 30 31) ≤ 31)
    go true true c = omega arith
    go true false c = omega arith
    go false b true = omega arith
    go false b false = omega arith

-- The days of the twelve months are those of the year.
pub months_of_year : (y : ℕ) → month_start y months ≡ days_of_year y
unfolding month_start days_in
months_of_year y = go (is_leap y)
  where
    go : (b : Bool) → 31 + cond b 29 28 + 31 + 30 + 31 + 30 + 31 + 31 + 30 + 31 + 30 + 31 ≡ cond b 366 365
    go true = refl
    go false = refl

-- A month's days follow those of the months before.
pub month_step : (y m : ℕ) → 1 ≤ m → month_start y m ≡ month_start y (m - 1) + days_in y m
unfolding month_start
month_step y zero h = absurd (omega arith)
month_step y (suc m) h = let e : suc m - 1 ≡ m = omega arith in rw e

-- The months of a year follow the years before.
pub year_step : (y : ℕ) → first_year ≤ y
    → year_start (suc y - first_year) ≡ year_start (y - first_year) + month_start y months
unfolding year_start
year_step y h =
    let e : suc y - first_year ≡ suc (y - first_year) = omega arith in
    let f : first_year + (y - first_year) ≡ y = omega arith in
    rw (e, f, months_of_year y)

-- More months have no fewer days, and neither have more years.
pub months_mono : (y i j : ℕ) → i ≤ j → month_start y i ≤ month_start y j
unfolding month_start
months_mono y i zero h = let e : i ≡ 0 = omega arith in rw e (omega arith)
months_mono y i (suc j) h = go (ltb j i) refl (λ l. months_mono y i j l)
  where
    go : (t : Bool) → ltb j i ≡ t → (i ≤ j → month_start y i ≤ month_start y j)
        → month_start y i ≤ month_start y j + days_in y (suc j)
    go true e r = let e : i ≡ suc j = omega (arith, ltb-true j i e) in rw e (omega arith)
    go false e r = omega (arith, r (ltb-false j i e))

pub years_mono : (i j : ℕ) → i ≤ j → year_start i ≤ year_start j
unfolding year_start
years_mono i zero h = let e : i ≡ 0 = omega arith in rw e (omega arith)
years_mono i (suc j) h = go (ltb j i) refl (λ l. years_mono i j l)
  where
    go : (t : Bool) → ltb j i ≡ t → (i ≤ j → year_start i ≤ year_start j)
        → year_start i ≤ year_start j + days_of_year (first_year + j)
    go true e r = let e : i ≡ suc j = omega (arith, ltb-true j i e) in rw e (omega arith)
    go false e r = omega (arith, r (ltb-false j i e))

-- The three ways to a date's next.
data Next (d : Date) : Date → Type 0 where
  in_month : d.day < days_in d.year d.month → Next d (date d.year d.month (suc d.day))
  in_year : days_in d.year d.month ≤ d.day → d.month < months
      → Next d (date d.year (suc d.month) 1)
  new_year : days_in d.year d.month ≤ d.day → months ≤ d.month → Next d (date (suc d.year) 1 1)

next_is : (d : Date) → Next d (next d)
unfolding next
next_is d = go (ltb d.day (days_in d.year d.month)) refl (ltb d.month months) refl
  where
    go : (t : Bool) → ltb d.day (days_in d.year d.month) ≡ t → (u : Bool) → ltb d.month months ≡ u
        → Next d (cond t (date d.year d.month (suc d.day))
        (cond u (date d.year (suc d.month) 1) (date (suc d.year) 1 1)))
    go true e u f = in_month (ltb-true _ _ e)
    go false e true f = in_year (ltb-false _ _ e) (ltb-true _ _ f)
    go false e false f = new_year (ltb-false _ _ e) (ltb-false _ _ f)

-- The next date of a calendar date is in the calendar, and in no earlier year.
next_in_calendar : (d : Date) → InCalendar d → InCalendar (next d) × (d.year ≤ (next d).year)
next_in_calendar d h = go (next_is d)
  where
    go : {e : Date} → Next d e → InCalendar e × (d.year ≤ e.year)
    go (in_month l) = (
      record { month_from = h.month_from; month_to = h.month_to; day_from = omega arith; day_to = l },
      omega arith,
    )
    go (in_year l k) = let b = days_of_a_month d.year (suc d.month) in (
      record { month_from = omega arith; month_to = k; day_from = omega arith; day_to = omega arith },
      omega arith,
    )
    go (new_year l k) = let b = days_of_a_month (suc d.year) 1 in (
      record {
        month_from = omega arith;
        month_to = omega arith;
        day_from = omega arith;
        day_to = omega arith;
      },
      omega arith,
    )

-- No days of a year precede its first month.
no_months : (y : ℕ) → month_start y (1 - 1) ≡ 0
unfolding month_start
no_months y = refl

-- From 2000 on the next date of a calendar date has the next number.
number_of_next : (d : Date) → InCalendar d → first_year ≤ d.year
    → day_number (next d) ≡ suc (day_number d)
unfolding day_number
number_of_next d h from = go (next_is d)
  where
    go : {e : Date} → Next d e → day_number e ≡ suc (day_number d)
    go (in_month l) = omega (arith, h.day_from)
    go (in_year l k) =
        let e : suc d.month - 1 ≡ d.month = omega arith in
        rw (e, month_step d.year d.month h.month_from) (omega (arith, l, h.day_from, h.day_to))
    go (new_year l k) =
        let e : d.month ≡ months = omega (arith, k, h.month_to) in
        let f = month_step d.year d.month h.month_from in
        let g : month_start d.year d.month ≡ month_start d.year months = rw e in
        rw (year_step d.year from, no_months (suc d.year))
        (omega (arith, f, g, l, h.day_from, h.day_to))

-- Every day's date is in the calendar, and from 2000 on.
pub date_in_calendar : (n : ℕ) → InCalendar (date_of n)
unfolding date_of
date_in_calendar zero = let b = days_of_a_month 2000 1 in
    record { month_from = omega arith; month_to = omega arith; day_from = omega arith; day_to = omega arith }
date_in_calendar (suc n) = (next_in_calendar (date_of n) (date_in_calendar n)).0

pub date_from_2000 : (n : ℕ) → first_year ≤ (date_of n).year
unfolding date_of
date_from_2000 zero = omega arith
date_from_2000 (suc n) =
    omega (arith, date_from_2000 n, (next_in_calendar (date_of n) (date_in_calendar n)).1)

-- The first date has number 0.
pub number_of_first : day_number first_date ≡ 0
unfolding day_number year_start month_start
number_of_first = refl

-- The number of a day's date is the day.
pub number_of_date : (n : ℕ) → day_number (date_of n) ≡ n
unfolding date_of
number_of_date zero = number_of_first
number_of_date (suc n) = number_of_next (date_of n) (date_in_calendar n) (date_from_2000 n)
    ∙ ap suc (number_of_date n)

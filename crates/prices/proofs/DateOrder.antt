-- The order of dates is that of their numbers, so a calendar date from 2000 on is the date of its number. Assumes nothing.
use mathlib.Core.Path.{◌≡◌, refl, sym, ap, ◌∙◌}
use mathlib.Core.Bool.{Bool, true, false}
use mathlib.Core.Logic.{◌↔◌}
use Prim.Native.Nat.{ℕ, suc, ◌+◌, ◌-◌, ◌≤◌, ◌<◌}
use native.Mathlib.Omega.{arith}
use borrow.Author.Tests.{ltb-true, ltb-false}
use lib.Dec.{ltb}
use Rattle.prices.specs.Calendar.{Date, months, date_of}
use Rattle.prices.specs.Dates.{InCalendar, Earlier, by_year, by_month, by_day}
use Rattle.prices.specs.Numbering.{first_year, year_start, month_start, day_number}
use Rattle.prices.proofs.Numbering.{month_step, year_step, months_mono, years_mono}
use Rattle.prices.proofs.Numbering.{date_in_calendar, date_from_2000, number_of_date}

-- Two numbers in one of their three orders.
data Compared (a b : ℕ) : Type 0 where
  less : a < b → Compared a b
  same : a ≡ b → Compared a b
  more : b < a → Compared a b

compared : (a b : ℕ) → Compared a b
compared a b = go (ltb a b) refl (ltb b a) refl
  where
    go : (t : Bool) → ltb a b ≡ t → (u : Bool) → ltb b a ≡ u → Compared a b
    go true e u f = less (ltb-true a b e)
    go false e true f = more (ltb-true b a f)
    go false e false f = same (omega (arith, ltb-false a b e, ltb-false b a f))

-- Dates with the same year, month and day are the same.
pub same_fields : {a b : Date} → a.year ≡ b.year → a.month ≡ b.month → a.day ≡ b.day → a ≡ b
same_fields {a} {b} e f g = rw (e, f, g)

-- Two dates in one of their three orders.
pub data DatesCompared (a b : Date) : Type 0 where
  earlier : Earlier a b → DatesCompared a b
  equal : a ≡ b → DatesCompared a b
  later : Earlier b a → DatesCompared a b

-- Of two different dates one is earlier.
pub dates_compared : (a b : Date) → DatesCompared a b
dates_compared a b =
    go (compared a.year b.year) (compared a.month b.month) (compared a.day b.day)
  where
    go : Compared a.year b.year → Compared a.month b.month → Compared a.day b.day
        → DatesCompared a b
    go (less y) m d = earlier (by_year y)
    go (more y) m d = later (by_year y)
    go (same y) (less m) d = earlier (by_month y m)
    go (same y) (more m) d = later (by_month (sym y) m)
    go (same y) (same m) (less d) = earlier (by_day y m d)
    go (same y) (same m) (more d) = later (by_day (sym y) (sym m) d)
    go (same y) (same m) (same d) = equal (same_fields y m d)

-- A date's number is at least that of its month's first date, and below that of the next month's.
number_in_month : (d : Date) → InCalendar d
    → (year_start (d.year - first_year) + month_start d.year (d.month - 1) ≤ day_number d)
    × (day_number d < year_start (d.year - first_year) + month_start d.year d.month)
unfolding day_number
number_in_month d h = let s = month_step d.year d.month h.month_from in
    (omega arith, omega (arith, s, h.day_from, h.day_to))

-- A date's number is at least that of its year's first date, and below that of the next year's.
pub number_in_year : (d : Date) → InCalendar d → first_year ≤ d.year
    → (year_start (d.year - first_year) ≤ day_number d)
    × (day_number d < year_start (suc d.year - first_year))
number_in_year d h from =
    let s = year_step d.year from in
    let m = months_mono d.year d.month months h.month_to in
    let k = number_in_month d h in (omega arith, omega arith)

-- Of two calendar dates from 2000 on the earlier has the lower number.
pub number_rises : (a b : Date) → InCalendar a → first_year ≤ a.year → InCalendar b → first_year ≤ b.year
    → Earlier a b → day_number a < day_number b
unfolding day_number
number_rises a b h from k to (by_year y) =
    let i = number_in_year a h from in let j = number_in_year b k to in
    omega (arith, i, j, years_mono (suc a.year - first_year) (b.year - first_year) (omega arith))
number_rises a b h from k to (by_month y m) =
    let i = number_in_month a h in let j = number_in_month b k in
    let l = months_mono b.year a.month (b.month - 1) (omega arith) in
    omega (
      arith,
      i,
      j,
      l,
      ap (λ (n : ℕ). year_start (n - first_year)) y,
      ap (λ (n : ℕ). month_start n a.month) y,
    )
number_rises a b h from k to (by_day y m d) = rw (y, m) (omega (arith, d, h.day_from, k.day_from))

-- Calendar dates from 2000 on with one number are one date.
number_injective : (a b : Date) → InCalendar a → first_year ≤ a.year → InCalendar b
    → first_year ≤ b.year
    → day_number a ≡ day_number b → a ≡ b
number_injective a b h from k to e = go (dates_compared a b)
  where
    go : DatesCompared a b → a ≡ b
    go (earlier l) = absurd (omega (arith, e, number_rises a b h from k to l))
    go (equal q) = q
    go (later l) = absurd (omega (arith, e, number_rises b a k to h from l))

-- A calendar date from 2000 on is the date of its number.
pub date_of_number : (d : Date) → InCalendar d → first_year ≤ d.year → date_of (day_number d) ≡ d
date_of_number d h from = number_injective (date_of (day_number d)) d
    (date_in_calendar (day_number d)) (date_from_2000 (day_number d)) h from (number_of_date (day_number d))

-- Days with one date are one day.
pub one_day : (n m : ℕ) → date_of n ≡ date_of m → n ≡ m
one_day n m e = sym (number_of_date n) ∙ ap day_number e ∙ number_of_date m

-- A day is before another exactly if its date is earlier.
pub order_kept : (n m : ℕ) → (n < m) ↔ Earlier (date_of n) (date_of m)
order_kept n m = ((λ l. go l (dates_compared (date_of n) (date_of m))), numbers n m)
  where
    numbers : (n m : ℕ) → Earlier (date_of n) (date_of m) → n < m
    numbers n m l = rw (number_of_date n, number_of_date m) at
        (number_rises (date_of n) (date_of m) (date_in_calendar n) (date_from_2000 n)
        (date_in_calendar m) (date_from_2000 m) l)

    go : n < m → DatesCompared (date_of n) (date_of m) → Earlier (date_of n) (date_of m)
    go l (earlier k) = k
    go l (equal e) = absurd (omega (arith, l, one_day n m e))
    go l (later k) = absurd (omega (arith, l, numbers m n k))

-- The days of a month: if its first and its last date have days, the month's days are those from the one to the other.
-- Assumes nothing.
use mathlib.Core.Path.{◌≡◌, refl, sym, ap, ◌∙◌}
use mathlib.Core.Bool.{Bool, true, false}
use mathlib.Core.Logic.{◌↔◌, ◌⊎◌, inl, inr}
use Prim.Native.Nat.{ℕ, suc, ◌+◌, ◌-◌, ◌≤◌, ◌<◌}
use native.Mathlib.Omega.{arith}
use borrow.Author.Tests.{ltb-true, ltb-false}
use lib.Dec.{ltb}
use Rattle.language.specs.Results.{accept, refuse, accept≢refuse}
use Rattle.prices.specs.Calendar.{Date, date, months, days_in, date_of, day_of}
use Rattle.prices.specs.Dates.{InCalendar, MonthWithoutDays, month_zero, month_past, out_of_range}
use Rattle.prices.specs.Numbering.{first_year, year_start, month_start, day_number}
use Rattle.prices.proofs.Numbering.{days_of_a_month, date_in_calendar, number_of_date}
use Rattle.prices.proofs.DateOrder.{date_of_number, same_fields}
use Rattle.prices.proofs.Calendar.{number_of_day, range_of_dates}

-- The days before a month's first date.
abbrev start : ℕ → ℕ → ℕ
start y m = year_start (y - first_year) + month_start y (m - 1)

number_is : (y m d : ℕ) → day_number (date y m d) ≡ start y m + (d - 1)
unfolding day_number
number_is y m d = refl

module _ (y m : ℕ) (in_calendar : InCalendar (date y m 1)) (from : first_year ≤ y) where
  -- A day of a month has the month's year and month.
  of_month : (n : ℕ) → start y m ≤ n → n < start y m + days_in y m
      → ((date_of n).year ≡ y) × ((date_of n).month ≡ m)
  of_month n l u =
      let d = date y m (suc (n - start y m)) in
      let c : InCalendar d = record {
        month_from = in_calendar.month_from;
        month_to = in_calendar.month_to;
        day_from = omega arith;
        day_to = omega arith;
      } in
      let e : day_number d ≡ n = number_is y m (suc (n - start y m)) ∙ omega arith in
      let f : date_of n ≡ d = ap date_of (sym e) ∙ date_of_number d c from in
      (ap (λ (x : Date). x.year) f, ap (λ (x : Date). x.month) f)

  -- A day whose date has the month's year and month is one of the month's.
  in_month : (n : ℕ) → (date_of n).year ≡ y → (date_of n).month ≡ m
      → (start y m ≤ n) × (n < start y m + days_in y m)
  in_month n p q =
      let f : date_of n ≡ date y m (date_of n).day = same_fields p q refl in
      let c = rw f at (date_in_calendar n) in
      let e = sym (number_of_date n) ∙ ap day_number f ∙ number_is y m (date_of n).day in
      omega (arith, c.day_from, c.day_to, e)

-- The days from a to b are those of a month, all of them and no others.
pub record DaysOfMonth (year month a b : ℕ) : Type 0 where
  pub in_order : a ≤ b
  pub count : suc b - a ≡ days_in year month
  pub exactly : (n : ℕ)
      → ((a ≤ n) × (n ≤ b)) ↔ (((date_of n).year ≡ year) × ((date_of n).month ≡ month))

-- If the first and the last date of a month have days a and b, the month's days are those from a to b.
pub days_of_month : (y m a b : ℕ) → day_of (date y m 1) ≡ accept a
    → day_of (date y m (days_in y m)) ≡ accept b
    → DaysOfMonth y m a b
days_of_month y m a b e f =
    let h = number_of_day (date y m 1) a e in
    let k = number_of_day (date y m (days_in y m)) b f in
    let i : a ≡ start y m = omega (arith, h.2, number_is y m 1) in
    let j : b ≡ start y m + (days_in y m - 1) = k.2 ∙ number_is y m (days_in y m) in
    let l = days_of_a_month y m in
    record {
      in_order = omega arith;
      count = omega arith;
      exactly = λ n. (
        (λ r. of_month y m h.0 h.1 n (omega arith) (omega arith)),
        (λ r. let s = in_month y m h.0 h.1 n r.0 r.1 in (omega arith, omega arith)),
      );
    }

-- If the first or the last date of a month is refused, there is no such month, or one of its dates is out of range.
pub month_refused : (y m number line : ℕ)
    → (day_of (date y m 1) ≡ refuse number line) ⊎ (day_of (date y m (days_in y m)) ≡ refuse number line)
    → MonthWithoutDays y m
month_refused y m number line r = go (ltb 0 m) refl (ltb months m) refl
  where
    b : (28 ≤ days_in y m) × (days_in y m ≤ 31)
    b = days_of_a_month y m

    one_of : (d : ℕ) → 1 ≤ m → m ≤ months → 1 ≤ d → d ≤ days_in y m
        → day_of (date y m d) ≡ refuse number line → MonthWithoutDays y m
    one_of d h k i j e =
        out_of_range d (record { month_from = h; month_to = k; day_from = i; day_to = j })
        (λ r. accept≢refuse number line (sym e ∙ ((range_of_dates (date y m d)).1 r).1))

    go : (t : Bool) → ltb 0 m ≡ t → (u : Bool) → ltb months m ≡ u → MonthWithoutDays y m
    go false e u f = month_zero (omega (arith, ltb-false 0 m e))
    go true e true f = month_past (ltb-true months m f)
    go true e false f = elim r [
      | inl q ↦ one_of 1 (ltb-true 0 m e) (ltb-false months m f) (omega arith) (omega (arith, b)) q
      | inr q ↦ one_of (days_in y m) (ltb-true 0 m e) (ltb-false months m f) (omega (arith, b)) (omega arith)
          q
    ]

-- The days of months, and the days before a month: a sum for years that are not leap years, and one day more from
-- March on in a leap year. Assumes nothing.
use mathlib.Core.Path.{◌≡◌, refl, sym, ap, ◌∙◌}
use mathlib.Core.Bool.{Bool, true, false, cond}
use mathlib.Core.Logic.{◌⊎◌, inl, inr}
use Prim.Native.Nat.{ℕ, zero, suc, ◌+◌, ◌-◌, ◌*◌, ◌/◌, ◌≤◌, ◌<◌}
use native.Mathlib.Omega.{arith}
use borrow.Author.Tests.{ne_eqb}
use Rattle.prices.specs.Calendar.{is_leap, days_in, months, has_30_days}
use Rattle.prices.specs.Numbering.{month_start}
use Rattle.prices.proofs.Numbering.{days_of_a_month}
use Rattle.calendar.specs.Found.{common_year, year_like, MonthOf}

-- The days of a month, by cases.
pub february : (y m : ℕ) → m ≡ 2 → (b : Bool) → is_leap y ≡ b → cond b 29 28 ≡ days_in y m
unfolding days_in
february y m e b f = rw (e, f)

pub of_30_days : (y m : ℕ) → (m ≡ 4) ⊎ ((m ≡ 6) ⊎ ((m ≡ 9) ⊎ (m ≡ 11))) → 30 ≡ days_in y m
unfolding days_in
of_30_days y m (inl e) = rw e
of_30_days y m (inr (inl e)) = rw e
of_30_days y m (inr (inr (inl e))) = rw e
of_30_days y m (inr (inr (inr e))) = rw e

pub of_31_days : (y m : ℕ) → (m ≡ 2 → ⊥) → ((m ≡ 4) ⊎ ((m ≡ 6) ⊎ ((m ≡ 9) ⊎ (m ≡ 11))) → ⊥)
    → 31 ≡ days_in y m
unfolding days_in
of_31_days y m n o = rw (
  ne_eqb m 2 n,
  ne_eqb m 4 (λ e. o (inl e)),
  ne_eqb m 6 (λ e. o (inr (inl e))),
  ne_eqb m 9 (λ e. o (inr (inr (inl e)))),
  ne_eqb m 11 (λ e. o (inr (inr (inr e)))),
)

-- Before March the days before a month are those of any year.
pub before_march : (y m : ℕ) → m ≤ 1 → month_start common_year m ≡ month_start y m
unfolding month_start days_in
before_march y zero h = refl
before_march y (suc zero) h = refl
before_march y (suc (suc m)) h = absurd (omega arith)

-- A month from March on has as many days in every year.
same_days : (y m : ℕ) → days_in y (suc (suc (suc m))) ≡ days_in common_year (suc (suc (suc m)))
unfolding days_in
same_days y m = rw (ne_eqb (suc (suc (suc m))) 2 (λ e. omega arith))

-- The first two months have one more day in a leap year.
to_march : (y : ℕ) → month_start y 2 ≡ month_start common_year 2 + cond (is_leap y) 1 0
unfolding month_start days_in is_leap
to_march y = go (is_leap y)
  where
    go : (b : Bool) → 31 + cond b 29 28 ≡ 59 + cond b 1 0
    go true = refl
    go false = refl

one_more : (y m : ℕ) → month_start y (suc m) ≡ month_start y m + days_in y (suc m)
unfolding month_start
one_more y m = refl

-- From March on the days before a month are one more in a leap year.
pub from_march : (y m : ℕ)
    → month_start y (suc (suc m)) ≡ month_start common_year (suc (suc m)) + cond (is_leap y) 1 0
from_march y zero = to_march y
from_march y (suc m) = omega (
  arith,
  from_march y m,
  one_more y (suc (suc m)),
  one_more common_year (suc (suc m)),
  same_days y m,
)

-- The days before a month, by whether the year is a leap year and whether the month is before March.
any_year : (b : Bool) (m : ℕ) {r : ℕ} → r ≡ month_start common_year (m - 1) → m < 3
    → r ≡ month_start (year_like b) (m - 1)
any_year b m e h = e ∙ before_march (year_like b) (m - 1) (omega arith)

pub days_like : (b : Bool) (m : ℕ) {r : ℕ} → r ≡ month_start common_year (m - 1) → (b ≡ true → m < 3)
    → r ≡ month_start (year_like b) (m - 1)
days_like true m e h = any_year true m e (h refl)
days_like false m e h = e

pub leap_year : (m : ℕ) {r : ℕ} → r ≡ month_start common_year (m - 1) → 3 ≤ m
    → r + 1 ≡ month_start (year_like true) (m - 1)
unfolding is_leap
leap_year m {r} e h = let f : m - 1 ≡ suc (suc (m - 3)) = omega arith in
    sym (rw (e, f) (from_march (year_like true) (m - 3)))

-- The days of months, and so the days before them, depend on whether the year is a leap year alone.
days_alike : (y m : ℕ) (b : Bool) → is_leap y ≡ b → days_in (year_like b) m ≡ days_in y m
unfolding days_in is_leap
days_alike y m true e = rw e
days_alike y m false e = rw e

pub months_alike : (y m : ℕ) (b : Bool) → is_leap y ≡ b → month_start (year_like b) m ≡ month_start y m
unfolding month_start
months_alike y zero b e = refl
months_alike y (suc m) b e = rw (months_alike y m b e, days_alike y (suc m) b e)

pub month_alike : (y : ℕ) (b : Bool) {rest m : ℕ} → is_leap y ≡ b → MonthOf (year_like b) rest m
    → MonthOf y rest m
month_alike y b {rest} {m} e h =
    record {
      month_from = h.month_from;
      month_to = h.month_to;
      from = omega (arith, h.from, months_alike y (m - 1) b e);
      to = omega (arith, h.to, months_alike y m b e);
    }

-- A month has at most 31 days.
pub months_most : (y m : ℕ) → month_start y m ≤ 31 * m
unfolding month_start
months_most y zero = omega arith
months_most y (suc m) = omega (arith, months_most y m, days_of_a_month y (suc m))

-- Months have at least 30 days, but for at most two that February lacks.
thirty : (y m : ℕ) → 30 ≤ days_in y (suc (suc (suc m)))
unfolding days_in
thirty y m = rw (ne_eqb (suc (suc (suc m))) 2 (λ e. omega arith)) (go (has_30_days (suc (suc (suc m)))))
  where
    go : (b : Bool) → 30 ≤ cond b 30 31
    go true = omega arith
    go false = omega arith

months_least : (y m : ℕ) → 30 * m ≤ month_start y m + 2
unfolding month_start days_in
months_least y zero = omega arith
months_least y (suc zero) = omega arith
months_least y (suc (suc zero)) = go (is_leap y)
  where
    go : (b : Bool) → 60 ≤ 31 + cond b 29 28 + 2
    go true = omega arith
    go false = omega arith
months_least y (suc (suc (suc m))) = omega (arith, months_least y (suc (suc m)), thirty y m)

-- The month of a day is the guess or the next.
pub month_guessed : (y r : ℕ) → r < month_start y months → r < month_start y (r / 32 + 1) → MonthOf y r (r / 32 + 1)
month_guessed y r h l =
    let e : r / 32 + 1 - 1 ≡ r / 32 = omega arith in
    let m = months_most y months in
    let k = months_most y (r / 32) in
    record { month_from = omega arith; month_to = omega (arith, h, m); from = rw e (omega (arith, k)); to = l }

pub month_after : (y r : ℕ) → r / 32 + 1 < months → month_start y (r / 32 + 1 + 1 - 1) ≤ r
    → MonthOf y r (r / 32 + 1 + 1)
month_after y r h l = record {
  month_from = omega arith;
  month_to = omega arith;
  from = l;
  to = omega (arith, months_least y (r / 32 + 1 + 1));
}

-- The code writes the next month as m + 1.
pub next_month : (y m : ℕ) → month_start y (m + 1 - 1) ≡ month_start y m
next_month y m = let e : m + 1 - 1 ≡ m = omega arith in rw e

-- The days before a month as the code counts them: before March,
pub until_february : (m : ℕ) → 1 ≤ m → m < 3 → (367 * m - 362) / 12 ≡ month_start common_year (m - 1)
unfolding month_start days_in is_leap
until_february zero h l = absurd (omega arith)
until_february (suc zero) h l = refl
until_february (suc (suc zero)) h l = refl
until_february (suc (suc (suc m))) h l = absurd (omega arith)

-- and from March on.
shared_out : (k : ℕ) → k ≤ 9 → (367 * (3 + k) - 362) / 12 - 2 ≡ month_start common_year (2 + k)
unfolding month_start days_in is_leap
shared_out zero h = refl
shared_out (suc zero) h = refl
shared_out (suc (suc zero)) h = refl
shared_out (suc (suc (suc zero))) h = refl
shared_out (suc (suc (suc (suc zero)))) h = refl
shared_out (suc (suc (suc (suc (suc zero))))) h = refl
shared_out (suc (suc (suc (suc (suc (suc zero)))))) h = refl
shared_out (suc (suc (suc (suc (suc (suc (suc zero))))))) h = refl
shared_out (suc (suc (suc (suc (suc (suc (suc (suc zero)))))))) h = refl
shared_out (suc (suc (suc (suc (suc (suc (suc (suc (suc zero))))))))) h = refl
shared_out (suc (suc (suc (suc (suc (suc (suc (suc (suc (suc k)))))))))) h = absurd (omega arith)

pub since_march : (m : ℕ) → 3 ≤ m → m ≤ months → (367 * m - 362) / 12 - 2 ≡ month_start common_year (m - 1)
since_march m h l =
    let e : m ≡ 3 + (m - 3) = omega arith in
    let f : m - 1 ≡ 2 + (m - 3) = omega arith in
    rw f (ap (λ (k : ℕ). (367 * k - 362) / 12 - 2) e ∙ shared_out (m - 3) (omega arith))

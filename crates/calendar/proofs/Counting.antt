-- Leap years, and the days of the years from 2000 on as one sum. Assumes nothing.
use mathlib.Core.Path.{◌≡◌, refl, sym}
use mathlib.Core.Bool.{Bool, true, false, cond}
use Prim.Native.Nat.{ℕ, zero, suc, ◌+◌, ◌-◌, ◌*◌, ◌/◌, ◌%◌, ◌≤◌, ◌<◌}
use native.Mathlib.Omega.{arith}
use borrow.Author.Tests.{eqb-true, eqb-false, eq-eqb, ne_eqb}
use lib.Dec.{eqb}
use Rattle.prices.specs.Calendar.{is_leap, last_day}
use Rattle.prices.specs.Numbering.{first_year, days_of_year, year_start}
use Rattle.calendar.specs.Found.{YearOf}

-- The three tests of a leap year.
leap_400 : (y : ℕ) → y % 400 ≡ 0 → true ≡ is_leap y
unfolding is_leap
leap_400 y e = rw (eq-eqb (y % 400) 0 e)

century : (y : ℕ) → (y % 400 ≡ 0 → ⊥) → y % 100 ≡ 0 → false ≡ is_leap y
unfolding is_leap
century y n e = rw (ne_eqb (y % 400) 0 n, eq-eqb (y % 100) 0 e)

every_fourth : (y : ℕ) → (y % 400 ≡ 0 → ⊥) → (y % 100 ≡ 0 → ⊥) → eqb (y % 4) 0 ≡ is_leap y
unfolding is_leap
every_fourth y n o = rw (ne_eqb (y % 400) 0 n, ne_eqb (y % 100) 0 o)

-- A fourth, a hundredth, a four hundredth, rounded up, grow at the multiples, among which 2000 is.
module _ (y : ℕ) where
  abbrev of_4 : ℕ
  of_4 = (first_year + y) % 4

  abbrev of_100 : ℕ
  of_100 = (first_year + y) % 100

  abbrev of_400 : ℕ
  of_400 = (first_year + y) % 400

  up_4 : of_4 ≡ 0 → (suc y + 3) / 4 ≡ (y + 3) / 4 + 1
  up_4 e = omega arith

  stay_4 : (of_4 ≡ 0 → ⊥) → (suc y + 3) / 4 ≡ (y + 3) / 4
  stay_4 n = omega arith

  up_100 : of_100 ≡ 0 → (suc y + 99) / 100 ≡ (y + 99) / 100 + 1
  up_100 e = omega arith

  stay_100 : (of_100 ≡ 0 → ⊥) → (suc y + 99) / 100 ≡ (y + 99) / 100
  stay_100 n = omega arith

  up_400 : of_400 ≡ 0 → (suc y + 399) / 400 ≡ (y + 399) / 400 + 1
  up_400 e = omega arith

  stay_400 : (of_400 ≡ 0 → ⊥) → (suc y + 399) / 400 ≡ (y + 399) / 400
  stay_400 n = omega arith

  hundred_of_400 : of_400 ≡ 0 → of_100 ≡ 0
  hundred_of_400 e = omega arith

  four_of_100 : of_100 ≡ 0 → of_4 ≡ 0
  four_of_100 e = omega arith

-- From 2000 on every fourth year has a day more, but of those that end a century only every fourth.
pub years_closed : (y : ℕ) → year_start y + (y + 99) / 100 ≡ 365 * y + (y + 3) / 4 + (y + 399) / 400
unfolding year_start
years_closed zero = refl
years_closed (suc y) = go (years_closed y) _ refl _ refl _ refl
  where
    go : year_start y + (y + 99) / 100 ≡ 365 * y + (y + 3) / 4 + (y + 399) / 400
        → (a : Bool) → eqb (of_400 y) 0 ≡ a → (b : Bool) → eqb (of_100 y) 0 ≡ b
        → (c : Bool) → eqb (of_4 y) 0 ≡ c
        → year_start y + days_of_year (first_year + y) + (suc y + 99) / 100
        ≡ 365 * suc y + (suc y + 3) / 4 + (suc y + 399) / 400
    go r true e b f c g =
        let i = up_400 y (eqb-true _ _ e) in
        let j = up_100 y (hundred_of_400 y (eqb-true _ _ e)) in
        let k = up_4 y (four_of_100 y (hundred_of_400 y (eqb-true _ _ e))) in
        rw (sym (leap_400 (first_year + y) (eqb-true (of_400 y) 0 e)), i, j, k) (omega (arith, r))
    go r false e true f c g =
        let i = stay_400 y (eqb-false _ _ e) in
        let j = up_100 y (eqb-true _ _ f) in
        let k = up_4 y (four_of_100 y (eqb-true _ _ f)) in
        rw (sym (century (first_year + y) (eqb-false (of_400 y) 0 e) (eqb-true (of_100 y) 0 f)), i, j, k)
        (omega (arith, r))
    go r false e false f true g =
        let i = stay_400 y (eqb-false _ _ e) in
        let j = stay_100 y (eqb-false _ _ f) in
        let k = up_4 y (eqb-true _ _ g) in
        rw (
          sym (every_fourth (first_year + y) (eqb-false (of_400 y) 0 e) (eqb-false (of_100 y) 0 f)),
          g,
          i,
          j,
          k,
        )
        (omega (arith, r))
    go r false e false f false g =
        let i = stay_400 y (eqb-false _ _ e) in
        let j = stay_100 y (eqb-false _ _ f) in
        let k = stay_4 y (eqb-false _ _ g) in
        rw (
          sym (every_fourth (first_year + y) (eqb-false (of_400 y) 0 e) (eqb-false (of_100 y) 0 f)),
          g,
          i,
          j,
          k,
        )
        (omega (arith, r))

-- A year has at most 366 days.
pub years_most : (y : ℕ) → year_start y ≤ 366 * y
unfolding year_start
years_most zero = omega arith
years_most (suc y) = go (is_leap (first_year + y)) (years_most y)
  where
    go : (b : Bool) → year_start y ≤ 366 * y → year_start y + cond b 366 365 ≤ 366 * suc y
    go true r = omega arith
    go false r = omega arith

-- The sum of the code, for the first 200 years.
pub years_to_2100 : (y : ℕ) → y ≤ 100 → 365 * y + (y + 3) / 4 ≡ year_start y
years_to_2100 y h = omega (arith, years_closed y)

pub years_past_2100 : (y : ℕ) → y ≤ 200 → 100 < y → 365 * y + (y + 3) / 4 - 1 ≡ year_start y
years_past_2100 y h k = omega (arith, years_closed y)

-- The year of a day is the guess or the next.
first_year_guess : (n : ℕ) → year_start (4 * n / 1461) ≤ n
first_year_guess n = omega (arith, years_closed (4 * n / 1461))

next_year_guess : (n : ℕ) → n ≤ last_day → n < year_start (suc (4 * n / 1461 + 1))
next_year_guess n h = omega (arith, years_closed (suc (4 * n / 1461 + 1)))

pub year_guessed : (n : ℕ) → n ≤ last_day → n < year_start (4 * n / 1461 + 1) → YearOf n (4 * n / 1461)
year_guessed n h l = let e : 4 * n / 1461 + 1 ≡ suc (4 * n / 1461) = omega arith in
    record { few = omega arith; from = first_year_guess n; to = rw e at l }

pub year_after : (n : ℕ) → n ≤ last_day → year_start (4 * n / 1461 + 1) ≤ n → YearOf n (4 * n / 1461 + 1)
year_after n h l = record { few = omega arith; from = l; to = next_year_guess n h }

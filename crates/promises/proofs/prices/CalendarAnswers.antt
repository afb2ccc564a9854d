-- What the two conversions between days and dates return. Assumes nothing.
use mathlib.Core.Path.{◌≡◌, refl, sym, ◌∙◌}
use mathlib.Core.Logic.{◌↔◌, ◌≢◌, ◌⊎◌, inl, inr}
use mathlib.Core.Bool.{Bool, true, false, cond}
use Prim.Native.Nat.{ℕ, ◌%◌, ◌≤◌, ◌<◌}
use borrow.Author.Tests.{leb-true, leb-false, le-leb, lt-leb, eqb-true, eqb-false}
use lib.Dec.{eqb, leb}
use Rattle.std.specs.Prelude.{Result, Ok, Err}
use Rattle.language.specs.Refusals.{refusal}
use Rattle.language.specs.declared.Refusal.{Refusal}
use Rattle.language.proofs.Refusals.{err_injective}
use Rattle.prices.specs.declared.Date.{Date}
use Rattle.language.proofs.Booleans.{false≢}
use Rattle.language.specs.Limits.{no_line}
use Rattle.language.specs.Results.{Checked, accept, refuse, require}
use Rattle.prices.specs.Calendar.{is_leap, date, date_refusal, date_of, day_of, told_day, day_answer}
use Rattle.prices.specs.Calendar.{date_answer}
use Rattle.prices.specs.Dates.{HasNoDay}
use Rattle.prices.proofs.Calendar.{day_of_date_of, date_of_day_of, day_refused}
use Rattle.promises.specs.PriceWords.{largest_day}

-- A refusal is no answer.
pub not_done : {A B : Type 0} {r : Refusal} {b : B} → ◌≡◌ {A = Result B Refusal} (Err r) (Ok b) → A
not_done e = absurd (cc)

-- Which years are leap years.
pub leap_is : (y : ℕ) → (is_leap y ≡ true) ↔ ((y % 400 ≡ 0) ⊎ ((y % 4 ≡ 0) × (y % 100 ≢ 0)))
unfolding is_leap
leap_is y = go (eqb (y % 400) 0) refl (eqb (y % 100) 0) refl (eqb (y % 4) 0) refl
  where
    go : (a : Bool) → eqb (y % 400) 0 ≡ a → (b : Bool) → eqb (y % 100) 0 ≡ b → (c : Bool) → eqb (y % 4) 0 ≡ c
        → (cond a true (cond b false c) ≡ true) ↔ ((y % 400 ≡ 0) ⊎ ((y % 4 ≡ 0) × (y % 100 ≢ 0)))
    go true p b q c r = ((λ _. inl (eqb-true (y % 400) 0 p)), (λ _. refl))
    go false p true q c r = (
      (λ e. false≢ e),
      (λ e. elim e [
        | inl h ↦ absurd (eqb-false (y % 400) 0 p h)
        | inr h ↦ absurd (h.1 (eqb-true (y % 100) 0 q))
      ]),
    )
    go false p false q true r = ((λ _. inr (eqb-true (y % 4) 0 r, eqb-false (y % 100) 0 q)), (λ _. refl))
    go false p false q false r = (
      (λ e. false≢ e),
      (λ e. elim e [
        | inl h ↦ absurd (eqb-false (y % 400) 0 p h)
        | inr h ↦ absurd (eqb-false (y % 4) 0 r h.0)
      ]),
    )

-- The day of a date.
module _ (y m d : ℕ) where
  pub day_told : (n : ℕ) → (day_answer y m d ≡ Ok n) ↔ ((n ≤ largest_day) × (date_of n ≡ date y m d))
  day_told n = (forth (day_of (date y m d)) refl, back)
    where
      forth : (r : Checked ℕ) → day_of (date y m d) ≡ r → told_day r ≡ Ok n
          → (n ≤ largest_day) × (date_of n ≡ date y m d)
      forth (accept k) e f = let q : k ≡ n = cc in date_of_day_of (date y m d) n (rw q at e)
      forth (refuse a b) e f = not_done f

      back : (n ≤ largest_day) × (date_of n ≡ date y m d) → day_answer y m d ≡ Ok n
      back w = rw (← w.1, day_of_date_of n w.0)

  pub day_not_told : (n k : ℕ) → (day_answer y m d ≡ Err (refusal n k)) ↔ HasNoDay (date y m d) n k
  day_not_told n k = (forth (day_of (date y m d)) refl, back)
    where
      forth : (r : Checked ℕ) → day_of (date y m d) ≡ r → told_day r ≡ Err (refusal n k) → HasNoDay (date y m d) n k
      forth (accept i) e f = not_done (sym f)
      forth (refuse a b) e f = let p = err_injective f in (day_refused (date y m d) n k).0 (rw (p.0, p.1) at e)

      back : HasNoDay (date y m d) n k → day_answer y m d ≡ Err (refusal n k)
      back w = rw ((day_refused (date y m d) n k).1 w)

-- The date of a day.
module _ (n : ℕ) where
  date_in : n ≤ largest_day → date_answer n ≡ Ok (date (date_of n).year (date_of n).month (date_of n).day)
  unfolding require
  date_in h = rw (le-leb n largest_day h)

  date_out : largest_day < n → date_answer n ≡ Err (refusal date_refusal no_line)
  unfolding require
  date_out h = rw (lt-leb n largest_day h)

  pub date_told : (y m d : ℕ)
      → (date_answer n ≡ Ok (date y m d)) ↔ ((n ≤ largest_day) × (date_of n ≡ date y m d))
  date_told y m d = (forth (leb n largest_day) refl, back)
    where
      forth : (b : Bool) → leb n largest_day ≡ b → date_answer n ≡ Ok (date y m d)
          → (n ≤ largest_day) × (date_of n ≡ date y m d)
      forth true q e =
          let h = leb-true n largest_day q in
          let f : ◌≡◌ {A = Result Date Refusal} (Ok (date_of n)) (Ok (date y m d)) = sym (date_in h) ∙ e in
          let d : date_of n ≡ date y m d = cc in
          (h, d)
      forth false q e = not_done (sym (date_out (leb-false n largest_day q)) ∙ e)

      back : (n ≤ largest_day) × (date_of n ≡ date y m d) → date_answer n ≡ Ok (date y m d)
      back w = date_in w.0 ∙ rw w.1

  pub date_not_told : (a b : ℕ)
      → (date_answer n ≡ Err (refusal a b)) ↔ ((a ≡ date_refusal) × (b ≡ no_line) × (largest_day < n))
  date_not_told a b = (forth (leb n largest_day) refl, back)
    where
      forth : (t : Bool) → leb n largest_day ≡ t → date_answer n ≡ Err (refusal a b)
          → (a ≡ date_refusal) × (b ≡ no_line) × (largest_day < n)
      forth true q e = not_done (sym e ∙ date_in (leb-true n largest_day q))
      forth false q e =
          let h = leb-false n largest_day q in
          let f : ◌≡◌ {A = Result Date Refusal} (Err (refusal date_refusal no_line)) (Err (refusal a b)) =
          sym (date_out h) ∙ e in
          let p = err_injective f in
          (sym p.0, sym p.1, h)

      back : (a ≡ date_refusal) × (b ≡ no_line) × (largest_day < n) → date_answer n ≡ Err (refusal a b)
      back w = date_out w.2 ∙ rw (w.0, w.1)

-- The two are inverse.
pub told_back : (y m d n : ℕ) → (day_answer y m d ≡ Ok n) ↔ (date_answer n ≡ Ok (date y m d))
told_back y m d n =
    ((λ e. (date_told n y m d).1 ((day_told y m d n).0 e)), (λ e. (day_told y m d n).1 ((date_told n y m d).0 e)))

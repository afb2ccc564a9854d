-- Laws of the services' answers, by what the terms and the days are. Assumes nothing.
use mathlib.Core.Path.{◌≡◌, refl, ap, ◌∙◌}
use mathlib.Core.List.{List, ◌++◌}
use Prim.Native.Nat.{ℕ, suc, ◌+◌, ◌-◌, ◌/◌, ◌≤◌, ◌<◌}
use native.Mathlib.Omega.{arith}
use borrow.Author.Tests.{le-leb, lt-leb}
use lib.ListN.{length, take, drop}
use lib.Seq.{sets}
use Rattle.language.specs.Results.{Checked, accept, refuse, bind_checked, require}
use Rattle.language.specs.Filling.{answer, buffer}
use Rattle.std.specs.Prelude.{Ok, Err}
use Rattle.language.specs.declared.Refusal.{Refusal}
use Rattle.language.proofs.Refusals.{result_ok, result_err}
use Rattle.language.proofs.Filling.{answer_fits, take_sets}
use Rattle.prices.specs.Calendar.{date, days_in, day_of, day_in_range, told_day, day_answer}
use Rattle.prices.specs.Terms.{Term, terms_of}
use Rattle.prices.specs.Prices.{ruling, term_on, told_price}
use Rattle.prices.specs.Reports.{Days, days_from, month_days, price_runs, cents_on, run_lines}
use Rattle.prices.specs.Reports.{days_report, price_report}
use Rattle.pricing.specs.Runs.{unless_refused}
use Rattle.prices.proofs.Numbering.{days_of_a_month}
use Rattle.prices.proofs.Calendar.{day_refused, date_of_day_of}
use Rattle.prices.proofs.Months.{days_of_month}

-- ---- the day of an answer

-- what the calendar's answer says of the date
pub day_is : (m : Checked ℕ) (n : ℕ) → told_day m ≡ Ok n → m ≡ accept n
day_is m n e = let r = result_ok (λ (k : ℕ). k) m e in r.is ∙ ap accept r.gives

-- a date that is refused is refused with 24
pub date_refused : (year month day : ℕ) {r : Refusal} → day_answer year month day ≡ Err r
    → day_of (date year month day) ≡ refuse 24 0
date_refused year month day {r} e =
    let q = result_err (λ (k : ℕ). k) (day_of (date year month day)) r e in
    let w = (day_refused (date year month day) r.number r.line).0 q in
    rw (w.number_is, w.line_is) at q

-- a day's number, in range and past it
pub day_within : (day : ℕ) → day ≤ 65535 → day_in_range day ≡ accept day
unfolding require
day_within day h = rw (le-leb day 65535 h)

pub day_beyond : (day : ℕ) → 65535 < day → day_in_range day ≡ refuse 24 0
unfolding require
day_beyond day h = rw (lt-leb day 65535 h)

-- ---- prices

module _ (text : List ℕ) (model : ℕ) where
  -- the terms are refused
  pub price_refused : (r : Refusal) (day : Checked ℕ) → terms_of text ≡ refuse r.number r.line
      → Err r ≡ told_price (term_on text model day)
  unfolding term_on bind_checked
  price_refused r day e = rw e

  -- the day is refused
  pub price_no_day : Err (unless_refused (terms_of text)) ≡ told_price (term_on text model (refuse 24 0))
  unfolding term_on bind_checked
  price_no_day = go (terms_of text)
    where
      go : (m : Checked (List Term)) → Err (unless_refused m)
          ≡ told_price (bind_checked m λ ts. bind_checked (refuse 24 0) λ n. accept (ruling model n ts))
      go (accept ts) = refl
      go (refuse a b) = refl

  -- neither is refused
  pub price_ruled : (day : ℕ) (ts : List Term) → terms_of text ≡ accept ts
      → told_price (accept (ruling model day ts)) ≡ told_price (term_on text model (accept day))
  unfolding term_on bind_checked
  price_ruled day ts e = rw e

  -- ---- reports

  -- the terms are refused
  pub report_refused : (number line : ℕ) (days : Checked Days) → terms_of text ≡ refuse number line
      → days_report text model days ≡ refuse number line
  unfolding days_report bind_checked
  report_refused number line days e = rw e

  -- neither is refused
  pub report_made : (day count : ℕ) (ts : List Term) → terms_of text ≡ accept ts
      → days_report text model (accept (days_from day count))
      ≡ accept (run_lines (price_runs (cents_on model ts) day count))
  unfolding days_report bind_checked
  report_made day count ts e = rw e

  -- where the days are refused nothing is written, and no room is asked for
  pub unmade : (old : List ℕ)
      → (Err (unless_refused (terms_of text)) ≡ answer 1 (days_report text model (refuse 24 0)) (length old))
      × (old ≡ buffer (days_report text model (refuse 24 0)) old)
  unfolding days_report bind_checked
  unmade old = go (terms_of text)
    where
      go : (m : Checked (List Term))
          → (Err (unless_refused m) ≡ answer 1 (bind_checked m λ ts. refuse 24 0) (length old))
          × (old ≡ buffer (bind_checked m λ ts. refuse 24 0) old)
      go (accept ts) = (refl, refl)
      go (refuse a b) = (refl, refl)

-- what was written aside and copied is the report
pub report_written : (xs old held₀ held new : List ℕ) (n : ℕ) → n ≡ length xs → n ≤ length old
    → n ≤ length held₀ → held ≡ sets held₀ 0 xs → new ≡ take n held ++ drop n old
    → (Ok n ≡ answer 1 (accept xs) (length old)) × (new ≡ buffer (accept xs) old)
report_written xs old held₀ held new n e h k w c =
    let a = answer_fits 1 xs old (omega (arith, e, h)) in
    let q : n ≡ length xs / 1 = omega (arith, e) in
    let t : take n held ≡ xs = rw (e, w) (take_sets held₀ xs (omega (arith, e, k))) in
    (ap Ok q ∙ a.0, c ∙ rw (t, e) a.1)

-- ---- the report of a month, by the answers to its first and its last date

-- the first date is refused
pub month_no_first : (text : List ℕ) (model year month : ℕ) {r : Refusal}
    → day_answer year month 1 ≡ Err r
    → price_report text model year month ≡ days_report text model (refuse 24 0)
unfolding month_days bind_checked
month_no_first text model year month e = rw (date_refused year month 1 e)

module _ (year month : ℕ) {days a : ℕ} (is : days ≡ days_in year month)
    (first : day_answer year month 1 ≡ Ok a) where
  at_first : day_of (date year month 1) ≡ accept a
  at_first = day_is (day_of (date year month 1)) a first

  -- the last date is refused
  pub month_no_last : (text : List ℕ) (model : ℕ) {r : Refusal}
      → day_answer year month days ≡ Err r
      → price_report text model year month ≡ days_report text model (refuse 24 0)
  unfolding month_days bind_checked
  month_no_last text model e = rw (at_first, ← is, date_refused year month days e)

  module _ {b : ℕ} (last : day_answer year month days ≡ Ok b) where
    at_last : day_of (date year month (days_in year month)) ≡ accept b
    at_last = rw (← is) (day_is (day_of (date year month days)) b last)

    -- neither is refused: the days of the report
    pub month_reported : (text : List ℕ) (model : ℕ)
        → price_report text model year month ≡ days_report text model (accept (days_from a (b + 1 - a)))
    unfolding month_days bind_checked
    month_reported text model = let q : b + 1 ≡ suc b = omega arith in rw (at_first, at_last, q)

    -- they are in order, in range and at most 31
    pub month_bounds : (a ≤ b) × (b ≤ 65535) × (b + 1 - a ≤ 31)
    month_bounds =
        let k = days_of_month year month a b at_first at_last in
        let h = (date_of_day_of (date year month (days_in year month)) b at_last).0 in
        (k.in_order, h, omega (arith, k.count, days_of_a_month year month))

-- The days of a month: which they are, and when a month is refused. Assumes nothing.
use mathlib.Core.Path.{◌≡◌, refl, sym, ap}
use mathlib.Core.Logic.{◌↔◌, inl, inr}
use Prim.Native.Nat.{ℕ, suc, ◌+◌, ◌-◌}
use native.Mathlib.Omega.{arith}
use Rattle.language.specs.Limits.{no_line}
use Rattle.language.specs.Results.{Checked, accept, refuse, bind_checked, accept≢refuse, accept_injective}
use Rattle.prices.specs.Calendar.{date, date_refusal, days_in, date_of, day_of}
use Rattle.prices.specs.declared.Date.{Date}
use Rattle.prices.specs.Dates.{MonthWithoutDays, month_zero, month_past, out_of_range}
use Rattle.prices.specs.Numbering.{day_number}
use Rattle.prices.specs.Reports.{Days, days_from, month_days}
use Rattle.prices.proofs.Numbering.{date_in_calendar, date_from_2000}
use Rattle.prices.proofs.DateOrder.{date_of_number}
use Rattle.prices.proofs.Calendar.{day_of_date_of, date_of_day_of, day_refused, range_of_dates}
use Rattle.prices.proofs.Months.{days_of_month, month_refused}
use Rattle.promises.specs.PriceWords.{DaysOf}

module _ (y m : ℕ) where
  data Ends : Checked Days → Type 0 where
    has_days : {ds : Days} → DaysOf y m ds → ds.count ≡ days_in y m → Ends (accept ds)
    has_none : MonthWithoutDays y m → Ends (refuse date_refusal no_line)

  both_days : (a b : ℕ) → day_of (date y m 1) ≡ accept a → day_of (date y m (days_in y m)) ≡ accept b
      → Ends (accept (days_from a (suc b - a)))
  both_days a b e f =
      let w = days_of_month y m a b e f in
      let k = (date_of_day_of (date y m (days_in y m)) b f).0 in
      has_days {ds = days_from a (suc b - a)} (record {
        some_days = omega (arith, w.in_order);
        in_range = omega (arith, w.in_order, k);
        exactly = λ n. (
          (λ r. (w.exactly n).0 (r.0, (omega (arith, w.in_order, r.1)))),
          (λ r. let s = (w.exactly n).1 r in (s.0, (omega (arith, w.in_order, s.1)))),
        );
      }) w.count

  month_ends : Ends (month_days y m)
  unfolding month_days bind_checked
  month_ends = go (day_of (date y m 1)) refl (day_of (date y m (days_in y m))) refl
    where
      go : (r : Checked ℕ) → day_of (date y m 1) ≡ r → (s : Checked ℕ) → day_of (date y m (days_in y m)) ≡ s
          → Ends (bind_checked r λ a. bind_checked s λ b. accept (days_from a (suc b - a)))
      go (accept a) e (accept b) f = both_days a b e f
      go (accept a) e (refuse n l) f = let w = (day_refused (date y m (days_in y m)) n l).0 f in
          rw (w.number_is, w.line_is) (has_none (month_refused y m n l (inr f)))
      go (refuse n l) e s f = let w = (day_refused (date y m 1) n l).0 e in
          rw (w.number_is, w.line_is) (has_none (month_refused y m n l (inl e)))

  -- Days that are those of the month are not none, and they are no others.
  none_or_days : (ds : Days) → DaysOf y m ds → ¬ MonthWithoutDays y m
  none_or_days ds w = go
    where
      of-first : ((date_of ds.first).year ≡ y) × ((date_of ds.first).month ≡ m)
      of-first = (w.exactly ds.first).0 ((omega arith), (omega (arith, w.some_days)))

      go : MonthWithoutDays y m → ⊥
      go (month_zero e) = omega (arith, e, of-first.1, (date_in_calendar ds.first).month_from)
      go (month_past l) = omega (arith, l, of-first.1, (date_in_calendar ds.first).month_to)
      go (out_of_range d c r) =
          let D = date y m d in
          let q : date_of (day_number D) ≡ D = date_of_number D c
          (omega (arith, of-first.0, date_from_2000 ds.first)) in
          let i = (w.exactly (day_number D)).1
          (ap (λ (x : Date). x.year) q, ap (λ (x : Date). x.month) q) in
          r ((range_of_dates D).0 (
            day_number D,
            rw q at (day_of_date_of (day_number D) (omega (arith, i.1, w.in_range))),
          ))

  same_days : (ds es : Days) → DaysOf y m ds → DaysOf y m es → ds ≡ es
  same_days ds es w v =
      let a = (v.exactly ds.first).1
      ((w.exactly ds.first).0 ((omega arith), (omega (arith, w.some_days)))) in
      let b = (w.exactly es.first).1
      ((v.exactly es.first).0 ((omega arith), (omega (arith, v.some_days)))) in
      let l : ℕ = ds.first + ds.count - 1 in
      let k : ℕ = es.first + es.count - 1 in
      let c = (v.exactly l).1
      ((w.exactly l).0 ((omega (arith, w.some_days)), (omega (arith, w.some_days)))) in
      let d = (w.exactly k).1
      ((v.exactly k).0 ((omega (arith, v.some_days)), (omega (arith, v.some_days)))) in
      let e : ds.first ≡ es.first = omega (arith, a.0, b.0) in
      let f : ds.count ≡ es.count = omega (arith, e, c.1, d.1, w.some_days, v.some_days) in
      rw (e, f)

  -- A month's days are exactly those with its year and month.
  pub month_is : (ds : Days) → (month_days y m ≡ accept ds) ↔ DaysOf y m ds
  month_is ds = (forth (month_days y m) month_ends, back (month_days y m) month_ends)
    where
      forth : (r : Checked Days) → Ends r → r ≡ accept ds → DaysOf y m ds
      forth (accept es) (has_days w c) e = rw (accept_injective e) at w
      forth (refuse n k) (has_none w) e = absurd (accept≢refuse n k e)

      back : (r : Checked Days) → Ends r → DaysOf y m ds → r ≡ accept ds
      back (accept es) (has_days w c) v = ap accept (same_days es ds w v)
      back (refuse n k) (has_none w) v = absurd (none_or_days ds v w)

  -- A month is refused with 24 on no line exactly if there is no such month or one of its dates is out of
  -- range.
  pub month_is_refused : (n k : ℕ) → (month_days y m ≡ refuse n k)
      ↔ ((n ≡ date_refusal) × (k ≡ no_line) × MonthWithoutDays y m)
  month_is_refused n k = (forth (month_days y m) month_ends, back (month_days y m) month_ends)
    where
      forth : (r : Checked Days) → Ends r → r ≡ refuse n k
          → (n ≡ date_refusal) × (k ≡ no_line) × MonthWithoutDays y m
      forth (accept es) (has_days w c) e = absurd (accept≢refuse n k (sym e))
      forth (refuse i j) (has_none w) e = ((cc), (cc), w)

      back : (r : Checked Days) → Ends r → (n ≡ date_refusal) × (k ≡ no_line) × MonthWithoutDays y m
          → r ≡ refuse n k
      back (accept es) (has_days w c) v = absurd (none_or_days es w v.2)
      back (refuse i j) (has_none w) v = rw (v.0, v.1)

  -- There are as many as the calendar says.
  pub month_count : (ds : Days) → month_days y m ≡ accept ds → ds.count ≡ days_in y m
  month_count ds e = go (month_days y m) month_ends e
    where
      go : (r : Checked Days) → Ends r → r ≡ accept ds → ds.count ≡ days_in y m
      go (accept es) (has_days w c) e = rw (accept_injective e) at c
      go (refuse n k) (has_none w) e = absurd (accept≢refuse n k e)

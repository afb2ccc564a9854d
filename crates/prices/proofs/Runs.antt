-- Laws of the runs of days with one price. Assumes nothing.
use mathlib.Core.Path.{◌≡◌, refl, sym, ap, ◌∙◌}
use mathlib.Core.Bool.{Bool, true, false, ◌&&◌}
use mathlib.Core.List.{List, [], ◌∷◌}
use mathlib.Core.Option.{Option, none, some}
use Prim.Native.Nat.{ℕ, zero, suc, ◌+◌, ◌-◌, ◌≤◌, ◌<◌}
use native.Mathlib.Omega.{arith}
use borrow.Author.Tests.{eqb-true, eq-eqb}
use lib.Dec.{eqb}
use lib.ListN.{length, length-append}
use Rattle.language.specs.Decimals.{digits}
use Rattle.language.specs.Lists.{choice}
use Rattle.fields.proofs.Decimals.{length_most}
use Rattle.prices.specs.Reports.{PriceRun, price_run, joined, price_runs, run_line}

-- a day without a price is in no run
pub runs_skip : (price : ℕ → Option ℕ) (day count : ℕ) → price day ≡ none
    → price_runs price day (suc count) ≡ price_runs price (suc day) count
unfolding price_runs
runs_skip price day count e = rw e

-- ---- the first run

-- the first of some runs, if there is one, begins on a day or later
record Late (day : ℕ) (rs : List PriceRun) : Type 0 where
  pub late : (r : PriceRun) (rest : List PriceRun) → rs ≡ r ∷ rest → day ≤ r.from

-- a day with a price begins the first run
joined_first : (day c : ℕ) (rs : List PriceRun) (r : PriceRun) (rest : List PriceRun)
    → joined day (some c) rs ≡ r ∷ rest → (r.from ≡ day) × (r.cents ≡ c)
joined_first day c [] r rest e = (cc, cc)
joined_first day c (x ∷ rs) r rest e = go (eqb x.from (suc day) && eqb x.cents c) e
  where
    go : (t : Bool)
        → choice t (λ _. price_run day x.to c ∷ rs) (λ _. price_run day day c ∷ x ∷ rs) ≡ r ∷ rest
        → (r.from ≡ day) × (r.cents ≡ c)
    go true e = (cc, cc)
    go false e = (cc, cc)

runs_late : (price : ℕ → Option ℕ) (day count : ℕ) → Late day (price_runs price day count)
unfolding price_runs
runs_late price day zero = record { late = λ r rest e. let z : ◌≡◌ {A = ℕ} 0 1 = cc in absurd (omega arith) }
runs_late price day (suc count) = go (price day) (runs_late price (suc day) count)
  where
    go : (p : Option ℕ) → Late (suc day) (price_runs price (suc day) count)
        → Late day (joined day p (price_runs price (suc day) count))
    go none ih = record { late = λ r rest e. omega (arith, ih.late r rest e) }
    go (some c) ih = record {
      late = λ r rest e. omega (arith, (joined_first day c (price_runs price (suc day) count) r rest e).0);
    }

-- the first run, if it begins on the first day, has that day's price
runs_price : (price : ℕ → Option ℕ) (day count : ℕ) (r : PriceRun) (rest : List PriceRun)
    → price_runs price day count ≡ r ∷ rest → r.from ≡ day → (0 < count) × (price day ≡ some r.cents)
unfolding price_runs
runs_price price day zero r rest e f = let z : ◌≡◌ {A = ℕ} 0 1 = cc in absurd (omega arith)
runs_price price day (suc count) r rest e f = (omega arith, go (price day) refl e)
  where
    go : (p : Option ℕ) → price day ≡ p → joined day p (price_runs price (suc day) count) ≡ r ∷ rest
        → price day ≡ some r.cents
    go none q e = absurd (omega (arith, (runs_late price (suc day) count).late r rest e, f))
    go (some c) q e = q ∙ ap some (sym (joined_first day c (price_runs price (suc day) count) r rest e).1)

-- a day before runs that do not go on with its price is a run of its own
joined_alone : (day c : ℕ) (rs : List PriceRun)
    → ((r : PriceRun) (rest : List PriceRun) → rs ≡ r ∷ rest → r.from ≡ suc day → r.cents ≡ c → ⊥)
    → joined day (some c) rs ≡ price_run day day c ∷ rs
joined_alone day c [] n = refl
joined_alone day c (r ∷ rs) n = go (eqb r.from (suc day)) refl (eqb r.cents c) refl
  where
    go : (t : Bool) → eqb r.from (suc day) ≡ t → (u : Bool) → eqb r.cents c ≡ u
        → choice (t && u) (λ _. price_run day r.to c ∷ rs) (λ _. price_run day day c ∷ r ∷ rs)
        ≡ price_run day day c ∷ r ∷ rs
    go true e true f =
        absurd (n r rs refl (eqb-true r.from (suc day) e) (eqb-true r.cents c f))
    go true e false f = refl
    go false e u f = refl

-- a day before a run that begins on the next day with its price joins it
joined_run : (day c to : ℕ) (rs : List PriceRun)
    → joined day (some c) (price_run (suc day) to c ∷ rs) ≡ price_run day to c ∷ rs
joined_run day c to rs = rw (eq-eqb (suc day) (suc day) refl, eq-eqb c c refl)

-- Days with one price, up to the last day or to a day that has not that price, are the first run.
pub runs_first : (price : ℕ → Option ℕ) (c k day count : ℕ) → k < count
    → ((i : ℕ) → i ≤ k → price (day + i) ≡ some c)
    → (suc k < count → price (day + suc k) ≡ some c → ⊥)
    → price_runs price day count
    ≡ price_run day (day + k) c ∷ price_runs price (day + suc k) (count - suc k)
unfolding price_runs
runs_first price c k day zero h each ends = absurd (omega (arith, h))
runs_first price c zero day (suc n) h each ends =
    let e : day + 0 ≡ day = omega arith in
    let f : day + 1 ≡ suc day = omega arith in
    let m : suc n - 1 ≡ n = omega arith in
    let p : price day ≡ some c = rw e at (each 0 (omega arith)) in
    rw (p, e, f, m) (joined_alone day c (price_runs price (suc day) n) λ r rest q a b.
    let w = runs_price price (suc day) n r rest q a in
    ends (omega (arith, w.0)) (rw f (w.1 ∙ ap some b)))
runs_first price c (suc k) day (suc n) h each ends =
    let e : day + 0 ≡ day = omega arith in
    let p : price day ≡ some c = rw e at (each 0 (omega arith)) in
    let f : day + suc k ≡ suc day + k = omega arith in
    let g : day + suc (suc k) ≡ suc day + suc k = omega arith in
    let m : suc n - suc (suc k) ≡ n - suc k = omega arith in
    let ih = runs_first price c k (suc day) n (omega (arith, h))
    (λ i l. let q : suc day + i ≡ day + suc i = omega arith in rw q (each (suc i) (omega (arith, l))))
    (λ l q. ends (omega (arith, l)) (rw g q)) in
    rw (p, ih, f, g, m) (joined_run day c (suc day + k) (price_runs price (suc day + suc k) (n - suc k)))

-- ---- lines

-- the line of a run has at most 18 bytes
pub line_long : (a b c : ℕ)
    → length (run_line (price_run a b c)) ≡ length (digits a) + length (digits b) + length (digits c) + 3
unfolding run_line
line_long a b c = simp length-append (omega arith)

pub line_short : (a b c : ℕ) → a ≤ 65535 → b ≤ 65535 → c ≤ 65535
    → length (run_line (price_run a b c)) ≤ 18
line_short a b c x y z =
    omega (arith, line_long a b c, length_most a x, length_most b y, length_most c z)

-- The runs of days with one price are exactly those that are in order, have their price on every day, have every day
-- with a price, and are parted. Assumes nothing.
use mathlib.Core.Path.{◌≡◌, refl, sym, ap, ◌∙◌}
use mathlib.Core.Logic.{◌↔◌, ◌≢◌}
use mathlib.Core.Bool.{Bool, true, false, ◌&&◌}
use mathlib.Core.List.{List, [], ◌∷◌}
use mathlib.Core.Option.{Option, none, some}
use Prim.Native.Nat.{ℕ, zero, suc, ◌+◌, ◌≤◌, ◌<◌}
use native.Mathlib.Omega.{arith}
use borrow.Author.Tests.{eqb-true, eqb-false, ltb-true, ltb-false}
use lib.Dec.{eqb, ltb}
use lib.ListN.{length}
use Rattle.language.specs.Lists.{Never, inj, choice}
use Rattle.language.specs.WellFormed.{Each, each_nil, each_cons}
use Rattle.prices.specs.Reports.{PriceRun, price_run, joined, price_runs}
use Rattle.promises.specs.PriceWords.{InOrder, no_more_runs, run_then, InRun, in_this, in_later, Parted}
use Rattle.promises.specs.PriceWords.{no_run, one_run, two_runs, HasPrice, RunsOf}

-- ---- the runs that are made

-- A first run before others.
run_before : (end first : ℕ) (r : PriceRun) (rs : List PriceRun) → first ≤ r.from → r.from ≤ r.to
    → r.to < end
    → InOrder end (suc r.to) rs → InOrder end first (r ∷ rs)
run_before end first r rs a b c o = run_then a b c o

-- Runs that are in order from a day on are so from the day before.
order_earlier : {end first : ℕ} (day : ℕ) {rs : List PriceRun} → day ≤ first → InOrder end first rs
    → InOrder end day rs
order_earlier day h no_more_runs = no_more_runs
order_earlier {end} day h (run_then {r} {rs} a b c o) = run_before end day r rs (omega (arith, h, a)) b c o

-- A run that ends alike and has the same price is parted from what follows alike.
parted_alike : {r : PriceRun} (q : PriceRun) {rs : List PriceRun} → q.to ≡ r.to → q.cents ≡ r.cents
    → Parted (r ∷ rs) → Parted (q ∷ rs)
parted_alike q e f one_run = one_run
parted_alike q e f (two_runs h p) = two_runs (λ a b. h (a ∙ ap suc e) (sym f ∙ b)) p

parted_tail : {r : PriceRun} {rs : List PriceRun} → Parted (r ∷ rs) → Parted rs
parted_tail one_run = no_run
parted_tail (two_runs h p) = p

module _ (price : ℕ → Option ℕ) (end : ℕ) where
  -- One day more before runs.
  module _ (day : ℕ) (here : day < end) where
    -- A day with a price is the first or a later one.
    first-or-later : {A : Type 0} (d : ℕ) → day ≤ d → (d ≡ day → A) → (suc day ≤ d → A) → A
    first-or-later {A} d h f g = go (ltb day d) refl
      where
        go : (b : Bool) → ltb day d ≡ b → A
        go true e = g (omega (arith, ltb-true day d e))
        go false e = f (omega (arith, h, ltb-false day d e))

    without : (rs : List PriceRun) → price day ≡ none → RunsOf price (suc day) end rs
        → RunsOf price day end rs
    without rs e w = record {
      in_order = order_earlier day (omega arith) w.in_order;
      priced = w.priced;
      covered = λ d c a b f. first-or-later d a (λ q. absurd (Never (sym e ∙ (ap price (sym q) ∙ f))))
          (λ k. w.covered d c k b f);
      parted = w.parted;
    }

    alone : (c : ℕ) → price day ≡ some c → HasPrice price (price_run day day c)
    alone c e d a b = let q : d ≡ day = omega (arith, a, b) in ap price q ∙ e

    one : (c : ℕ) → price day ≡ some c → RunsOf price (suc day) end []
        → RunsOf price day end (price_run day day c ∷ [])
    one c e w = record {
      in_order = run_before end day (price_run day day c) [] (omega arith) (omega arith) here no_more_runs;
      priced = each_cons (alone c e) each_nil;
      covered = λ d x a b f. first-or-later d a (λ q. in_this a (omega (arith, q)))
          (λ k. in_later (w.covered d x k b f));
      parted = one_run;
    }

    module _ (c : ℕ) (e : price day ≡ some c) (r : PriceRun) (rs : List PriceRun)
        (w : RunsOf price (suc day) end (r ∷ rs)) where
      ahead : (r.from ≡ suc day → c ≢ r.cents) → RunsOf price day end (price_run day day c ∷ r ∷ rs)
      ahead h = record {
        in_order = run_before end day (price_run day day c) (r ∷ rs) (omega arith) (omega arith) here
            w.in_order;
        priced = each_cons (alone c e) w.priced;
        covered = λ d x a b f. first-or-later d a (λ q. in_this a (omega (arith, q)))
            (λ k. in_later (w.covered d x k b f));
        parted = two_runs h w.parted;
      }

      joins : r.from ≡ suc day → r.cents ≡ c → RunsOf price day end (price_run day r.to c ∷ rs)
      joins p q = record {
        in_order = order w.in_order;
        priced = prices w.priced;
        covered = λ d x a b f.
            first-or-later d a (λ i. in_this a (omega (arith, i, p, reaches w.in_order)))
            (λ k. held d k (w.covered d x k b f));
        parted = parted_alike (price_run day r.to c) refl (sym q) w.parted;
      }
        where
          reaches : InOrder end (suc day) (r ∷ rs) → r.from ≤ r.to
          reaches (run_then a b c o) = b

          order : InOrder end (suc day) (r ∷ rs) → InOrder end day (price_run day r.to c ∷ rs)
          order (run_then a b l o) =
              run_before end day (price_run day r.to c) rs (omega arith) (omega (arith, a, b)) l o

          prices : Each (HasPrice price) (r ∷ rs) → Each (HasPrice price) (price_run day r.to c ∷ rs)
          prices (each_cons h hs) = each_cons (λ d a b. first-or-later d a (λ i. ap price i ∙ e)
              (λ k. h d (omega (arith, p, k)) b ∙ ap some q)) hs

          held : (d : ℕ) → suc day ≤ d → InRun d (r ∷ rs) → InRun d (price_run day r.to c ∷ rs)
          held d k (in_this a b) = in_this {r = price_run day r.to c} (omega (arith, k)) b
          held d k (in_later i) = in_later i

    joined-runs : (p : Option ℕ) → price day ≡ p → (rs : List PriceRun) → RunsOf price (suc day) end rs
        → RunsOf price day end (joined day p rs)
    joined-runs none e rs w = without rs e w
    joined-runs (some c) e [] w = one c e w
    joined-runs (some c) e (r ∷ rs) w = go (eqb r.from (suc day)) refl (eqb r.cents c) refl
      where
        go : (a : Bool) → eqb r.from (suc day) ≡ a → (b : Bool) → eqb r.cents c ≡ b
            → RunsOf price day end (choice (a && b) (λ _. price_run day r.to c ∷ rs)
            (λ _. price_run day day c ∷ r ∷ rs))
        go true p true q = joins c e r rs w (eqb-true r.from (suc day) p) (eqb-true r.cents c q)
        go true p false q = ahead c e r rs w (λ _ i. eqb-false r.cents c q (sym i))
        go false p b q = ahead c e r rs w (λ i _. eqb-false r.from (suc day) p i)

  made : (count first : ℕ) → first + count ≡ end → RunsOf price first end (price_runs price first count)
  unfolding price_runs
  made zero first h = record {
    in_order = no_more_runs;
    priced = each_nil;
    covered = λ d c a b f. absurd (omega (arith, a, b, h));
    parted = no_run;
  }
  made (suc count) first h = joined-runs first (omega (arith, h)) (price first) refl
      (price_runs price (suc first) count) (made count (suc first) (omega (arith, h)))

-- ---- there are no others

in_some : {day : ℕ} {rs : List PriceRun} → InRun day rs → 0 < length rs
in_some (in_this a b) = omega arith
in_some (in_later i) = omega arith

-- A day of runs that are in order is not before the first day.
not_before : {end first : ℕ} {rs : List PriceRun} (day : ℕ) → InOrder end first rs → InRun day rs
    → first ≤ day
not_before day (run_then a b c o) (in_this d e) = omega (arith, a, d)
not_before day (run_then a b c o) (in_later i) = omega (arith, a, b, not_before day o i)
not_before {end = end} day (no_more_runs {first = first}) x4 = elim x4 [ ]

module _ (price : ℕ → Option ℕ) (end : ℕ) where
  -- The first run, and those after it.
  record FirstRun (first : ℕ) (r : PriceRun) (rs : List PriceRun) : Type 0 where
    from_first : first ≤ r.from
    some_days : r.from ≤ r.to
    before_end : r.to < end
    has_price : HasPrice price r
    others : RunsOf price (suc r.to) end rs

  taken_apart : {first : ℕ} {r : PriceRun} {rs : List PriceRun} → RunsOf price first end (r ∷ rs)
      → FirstRun first r rs
  taken_apart {first} {r} {rs} w = go w.in_order w.priced w.parted
    where
      later : (day : ℕ) → suc r.to ≤ day → InRun day (r ∷ rs) → InRun day rs
      later day h (in_this a b) = absurd (omega (arith, h, b))
      later day h (in_later i) = i

      go : InOrder end first (r ∷ rs) → Each (HasPrice price) (r ∷ rs) → Parted (r ∷ rs) → FirstRun first r rs
      go (run_then a b c o) (each_cons h hs) p = record {
        from_first = a;
        some_days = b;
        before_end = c;
        has_price = h;
        others = record {
          in_order = o;
          priced = hs;
          covered = λ d x k l f. later d k (w.covered d x (omega (arith, a, b, k)) l f);
          parted = parted_tail p;
        };
      }

  module _ {first : ℕ} {r q : PriceRun} {rs qs : List PriceRun}
      (w : RunsOf price first end (r ∷ rs)) (v : RunsOf price first end (q ∷ qs)) where
    not_earlier : q.from ≤ r.from
    not_earlier =
        let a = taken_apart w in
        let b = taken_apart v in
        let i = v.covered r.from r.cents a.from_first (omega (arith, a.some_days, a.before_end))
        (a.has_price r.from (omega arith) a.some_days) in
        not_before r.from (order-earlier-run v.in_order) i
      where
        order-earlier-run : InOrder end first (q ∷ qs) → InOrder end q.from (q ∷ qs)
        order-earlier-run (run_then a b c o) = run_before end q.from q qs (omega arith) b c o

    not-shorter : r.from ≡ q.from → r.cents ≡ q.cents → q.to ≤ r.to
    not-shorter e f = go (ltb r.to q.to) refl
      where
        a : FirstRun first r rs
        a = taken_apart w

        b : FirstRun first q qs
        b = taken_apart v

        price-there : r.to < q.to → price (suc r.to) ≡ some r.cents
        price-there l = b.has_price (suc r.to) (omega (arith, e, a.some_days)) (omega (arith, l))
            ∙ ap some (sym f)

        clash : (rs : List PriceRun) → Parted (r ∷ rs) → RunsOf price (suc r.to) end rs
            → InRun (suc r.to) rs → price (suc r.to) ≡ some r.cents → ⊥
        clash [] p o i k = omega (arith, in_some i)
        clash (s ∷ ss) (two_runs h p) o i k = let c = taken_apart o in
            let e = begins c i in
            h e (inj (sym k ∙ c.has_price (suc r.to) (omega (arith, e))
            (omega (arith, c.from_first, c.some_days))))
          where
            begins : FirstRun (suc r.to) s ss → InRun (suc r.to) (s ∷ ss) → s.from ≡ suc r.to
            begins c (in_this x y) = omega (arith, x, c.from_first)
            begins c (in_later j) = absurd (omega (
              arith,
              c.from_first,
              c.some_days,
              not_before (suc r.to) c.others.in_order j,
            ))

        go : (t : Bool) → ltb r.to q.to ≡ t → q.to ≤ r.to
        go true l =
            let k = ltb-true r.to q.to l in
            let i = a.others.covered (suc r.to) r.cents (omega arith)
            (omega (arith, k, b.before_end))
            (price-there k) in
            absurd (clash rs w.parted a.others i (price-there k))
        go false l = ltb-false r.to q.to l

  unique : (rs qs : List PriceRun) (first : ℕ) → RunsOf price first end rs → RunsOf price first end qs
      → rs ≡ qs
  unique [] [] first w v = refl
  unique (r ∷ rs) [] first w v = let a = taken_apart w in
      let i = v.covered r.from r.cents a.from_first (omega (arith, a.some_days, a.before_end))
      (a.has_price r.from (omega arith) a.some_days) in
      absurd (omega (arith, in_some i))
  unique [] (q ∷ qs) first w v = let a = taken_apart v in
      let i = w.covered q.from q.cents a.from_first (omega (arith, a.some_days, a.before_end))
      (a.has_price q.from (omega arith) a.some_days) in
      absurd (omega (arith, in_some i))
  unique (r ∷ rs) (q ∷ qs) first w v =
      let a = taken_apart w in
      let b = taken_apart v in
      let e : r.from ≡ q.from = omega (arith, not_earlier w v, not_earlier v w) in
      let f : r.cents ≡ q.cents = inj (sym (a.has_price r.from (omega arith) a.some_days)
      ∙ b.has_price r.from (omega (arith, e)) (omega (arith, e, b.some_days))) in
      let g : r.to ≡ q.to = omega (arith, not-shorter w v e f, not-shorter v w (sym e) (sym f)) in
      let ih = unique rs qs (suc r.to) a.others (rw (← g) at b.others) in
      let same : r ≡ q = rw (e, f, g) in
      rw (same, ih)

-- The runs that are made are the runs of these days, and no others are.
pub runs_are : (price : ℕ → Option ℕ) (first count : ℕ) (rs : List PriceRun)
    → (price_runs price first count ≡ rs) ↔ RunsOf price first (first + count) rs
runs_are price first count rs =
    ((λ e. rw (← e) all), (λ w. unique price (first + count) (price_runs price first count) rs first all w))
  where
    all : RunsOf price first (first + count) (price_runs price first count)
    all = made price (first + count) count first refl

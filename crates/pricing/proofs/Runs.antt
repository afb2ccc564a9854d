-- Laws of finding the runs of a table and of writing their lines. Assumes nothing.
use mathlib.Core.Path.{◌≡◌, refl, sym, ap, ◌∙◌}
use mathlib.Core.Bool.{true, false, false≢true}
use mathlib.Core.List.{List, [], ◌∷◌, ◌++◌}
use mathlib.Core.Option.{Option, some}
use Rattle.std.specs.Prelude.{Option as Kept, Some, None}
use Prim.Native.Nat.{ℕ, suc, ◌+◌, ◌-◌, ◌*◌, ◌≤◌, ◌<◌}
use native.Mathlib.Omega.{arith}
use borrow.Author.Tests.{eqb-true, eqb-false, eq-eqb}
use lib.ListN.{length, get_or, set, length-append}
use lib.Seq.{sets, length-sets}
use Rattle.language.proofs.Filling.{sets_then}
use Rattle.language.specs.Decimals.{digits}
use Rattle.language.specs.Lists.{Never, inj}
use Rattle.prices.specs.Reports.{PriceRun, price_run, price_runs, run_line, run_lines}
use Rattle.prices.proofs.Runs.{runs_skip, runs_first, line_short}
use Rattle.terms.specs.declared.Entry.{Entry}
use Rattle.pricing.specs.Runs.{Priced, RunAt, cents_kept, has_price}

-- a line written number by number
pub line_written : (held : List ℕ) (at first last cents then next end : ℕ) → then ≡ at + length (digits first)
    → next ≡ then + 1 + length (digits last) → end ≡ next + 1 + length (digits cents)
    → set (sets (sets (sets held at (digits first)) then (9 ∷ digits last)) next (9 ∷ digits cents)) end 10
    ≡ sets held at (run_line (price_run first last cents))
unfolding run_line
line_written held at first last cents then next end e f g =
    let x : List ℕ = sets (sets held at (digits first)) then (9 ∷ digits last) in
    sets_then x next end (9 ∷ digits cents) (10 ∷ []) (omega (arith, g))
    ∙ sets_then (sets held at (digits first)) then next (9 ∷ digits last) ((9 ∷ digits cents) ++ (10 ∷ []))
    (omega (arith, f))
    ∙ sets_then held at then (digits first) ((9 ∷ digits last) ++ ((9 ∷ digits cents) ++ (10 ∷ []))) e

-- ---- what is kept of a day

pub is_none : (o : Kept Entry) → ((e : Entry) → o ≡ Some e → ⊥) → o ≡ None
is_none None n = refl
is_none (Some e) n = absurd (n e refl)

pub has_cents : (o : Kept Entry) (c : ℕ) → has_price o c ≡ true → cents_kept o ≡ some c
has_cents None c e = absurd (false≢true e)
has_cents (Some e) c q = ap some (eqb-true e.cents c q)

pub has_no_cents : (o : Kept Entry) (c : ℕ) → has_price o c ≡ false → cents_kept o ≡ some c → ⊥
has_no_cents None c e q = Never q
has_no_cents (Some e) c q r = eqb-false e.cents c q (inj r)

pub has_own : (o : Kept Entry) {e : Entry} → o ≡ Some e → has_price o e.cents ≡ true
has_own o {e} q = rw (q, eq-eqb e.cents e.cents refl)

-- ---- writing the runs one after another

lines_first : (r : PriceRun) (rs : List PriceRun) → run_lines (r ∷ rs) ≡ run_line r ++ run_lines rs
unfolding run_lines
lines_first r rs = refl

lines_none : (price : ℕ → Option ℕ) (day : ℕ) → run_lines (price_runs price day 0) ≡ []
unfolding run_lines price_runs
lines_none price day = refl

-- What is left to do: the lines of the days from place i on. Writing them at a place gives the buffer as it is to be.
pub record Writing (price : ℕ → Option ℕ) (day count : ℕ) (held₀ held : List ℕ) (i at : ℕ) : Type 0 where
  pub within : i ≤ count
  pub small : at ≤ 18 * i
  pub long : length held ≡ length held₀
  pub total : at + length (run_lines (price_runs price (day + i) (count - i)))
      ≡ length (run_lines (price_runs price day count))
  pub goal : sets held at (run_lines (price_runs price (day + i) (count - i)))
      ≡ sets held₀ 0 (run_lines (price_runs price day count))

pub writing_start : (price : ℕ → Option ℕ) (day count : ℕ) (held : List ℕ)
    → Writing price day count held held 0 0
writing_start price day count held =
    let e : day + 0 ≡ day = omega arith in
    let f : count - 0 ≡ count = omega arith in
    record {
      within = omega arith;
      small = omega arith;
      long = refl;
      total = rw (e, f) (omega arith);
      goal = rw (e, f);
    }

module _ {price : ℕ → Option ℕ} {day count : ℕ} {table : List (Kept Entry)} {held₀ held : List ℕ} {i at : ℕ}
    (p : Priced price day count table) (w : Writing price day count held₀ held i at) where
  -- a day without a price is passed over
  pub writing_skip : i < count → get_or table i None ≡ None → Writing price day count held₀ held (i + 1) at
  writing_skip h z =
      let e : count - i ≡ suc (count - (i + 1)) = omega (arith, h) in
      let f : day + (i + 1) ≡ suc (day + i) = omega arith in
      let q : price_runs price (day + i) (count - i) ≡ price_runs price (day + (i + 1)) (count - (i + 1)) =
      rw (e, f) (runs_skip price (day + i) (count - (i + 1)) (p.each i h ∙ ap cents_kept z)) in
      record {
        within = omega (arith, h);
        small = omega (arith, w.small);
        long = w.long;
        total = rw q at w.total;
        goal = rw q at w.goal;
      }

  module _ (cents j : ℕ) (r : RunAt table count cents i j) where
    -- the run is the first of those that are left
    first_run : price_runs price (day + i) (count - i)
        ≡ price_run (day + i) (day + j - 1) cents
        ∷ price_runs price (day + j) (count - j)
    first_run =
        let d : day + i + (j - i - 1) ≡ day + j - 1 = omega (arith, r.some_days) in
        let e : day + i + suc (j - i - 1) ≡ day + j = omega (arith, r.some_days) in
        let f : count - i - suc (j - i - 1) ≡ count - j = omega (arith, r.some_days, r.within) in
        rw (d, e, f) at (runs_first price cents (j - i - 1) (day + i) (count - i)
        (omega (arith, r.some_days, r.within)) each
        (λ l q. ends (omega (arith, l, r.some_days)) (rw e at q)))
      where
        each : (k : ℕ) → k ≤ j - i - 1 → price (day + i + k) ≡ some cents
        each k l =
            let m : i + k < j = omega (arith, l, r.some_days) in
            let q : day + i + k ≡ day + (i + k) = omega arith in
            rw q (p.each (i + k) (omega (arith, m, r.within))
            ∙ has_cents (get_or table (i + k) None) cents (r.one_price (i + k) (omega arith) m))

        ends : j < count → price (day + j) ≡ some cents → ⊥
        ends l e = has_no_cents (get_or table j None) cents (r.ends l) (sym (p.each j l) ∙ e)

    -- its line is short, and fits the buffer
    line_small : day + count ≤ 65536
        → length (run_line (price_run (day + i) (day + j - 1) cents)) ≤ 18
    line_small h = line_short (day + i) (day + j - 1) cents
        (omega (arith, h, r.some_days, r.within)) (omega (arith, h, r.some_days, r.within))
        (p.small i cents (omega (arith, r.some_days, r.within))
        (has_cents (get_or table i None) cents (r.one_price i (omega arith) r.some_days)))

    pub writing_fits : day + count ≤ 65536 → count ≤ 31 → 558 ≤ length held₀
        → at + length (run_line (price_run (day + i) (day + j - 1) cents)) ≤ length held
    writing_fits h k l =
        omega (arith, line_small h, k, l, w.small, w.long, r.some_days, r.within)

    -- it is written
    pub writing_step : day + count ≤ 65536 → (held' : List ℕ) (at' : ℕ)
        → at' ≡ at + length (run_line (price_run (day + i) (day + j - 1) cents))
        → held' ≡ sets held at (run_line (price_run (day + i) (day + j - 1) cents))
        → Writing price day count held₀ held' j at'
    writing_step h held' at' e f =
        let line : List ℕ = run_line (price_run (day + i) (day + j - 1) cents) in
        let rest : List ℕ = run_lines (price_runs price (day + j) (count - j)) in
        let q : run_lines (price_runs price (day + i) (count - i)) ≡ line ++ rest =
        ap run_lines first_run ∙ lines_first _ _ in
        record {
          within = r.within;
          small = omega (arith, line_small h, e, w.small, r.some_days);
          long = rw f (length-sets held at line ∙ w.long);
          total = omega (arith, e, length-append line rest, rw q at w.total);
          goal = rw f (sets_then held at at' line rest e ∙ (rw q at w.goal));
        }

  -- all days are passed
  pub writing_end : count ≤ i → (at ≡ length (run_lines (price_runs price day count)))
      × (held ≡ sets held₀ 0 (run_lines (price_runs price day count)))
  writing_end h =
      let e : count - i ≡ 0 = omega (arith, h) in
      let q : run_lines (price_runs price (day + i) (count - i)) ≡ [] = rw e (lines_none price (day + i)) in
      (omega (arith, rw q at w.total), rw q at w.goal)

-- The lines of runs are counted lines: no more labels are spoiled than printed, and as numbers they have the same report.
-- Assumes nothing.
use mathlib.Core.Path.{◌≡◌, refl, sym, ap}
use Prim.Native.Nat.{ℕ, suc, ◌*◌, ◌/◌, ◌%◌}
use native.Mathlib.Omega.{arith}
use borrow.Author.Tests.{eq-eqb, le-leb, leb-true}
use mathlib.Core.Logic.{◌↔◌}
use mathlib.Core.Bool.{Bool, true, false}
use mathlib.Core.List.{List, [], ◌∷◌, map}
use mathlib.Core.Option.{Option, none, some}
use lib.Dec.{leb}
use lib.ListN.{length, take, drop}
use Rattle.language.specs.Lists.{Never, inj, choice, map_option}
use Rattle.language.specs.Limits.{numbers_a_row, object_width, line_refusal}
use Rattle.language.specs.Results.{Checked, require}
use Rattle.language.specs.WellFormed.{Each, each_nil, each_cons}
use Rattle.fleet.specs.Counts.{Counts}
use Rattle.fleet.specs.Counts.{run_counts, class_refusal}
use Rattle.fleet.specs.Ranking.{Counted, sum_refusal, sums_from, all_within, add, report_of}
use Rattle.fleet.specs.Fleet.{numbers_a_run, numbers_a_line, Run, runs_of, line_of_counts, line_of_run}
use Rattle.fleet.specs.Fleet.{lines_of_runs}
use Rattle.fleet.specs.Fleet.{fleet_report, lines_in, counted_lines, models_report}
use Rattle.promises.specs.Totals.{Possible, line_numbers, LineOfRun}
use Rattle.promises.proofs.fleets.CountsExact.{no_more_spoiled}

choice_some : {A : Type 0} {C : Type 0} (t : Bool) (x : Option A) {a : A}
    → choice t (λ _. x) (λ _. none) ≡ some a
    → (t ≡ true → x ≡ some a → C) → C
choice_some true x e k = k refl e
choice_some false x e k = absurd (Never e)

-- The line of a run.
module _ (r : Run) (programs stores : List ℕ) (c : Counted) where
  counts_given : Option Counts
  counts_given = run_counts (take (numbers_a_row * r.rows) programs) stores r.objects r.printed
      r.spoiled

  line_is : line_of_run r programs stores ≡ some c → LineOfRun r programs stores c
  unfolding counts_given
  line_is e = choice_some (leb r.rows (length programs / numbers_a_row)) _ e λ h f.
      go h counts_given refl f
    where
      go : leb r.rows (length programs / numbers_a_row) ≡ true
          → (k : Option Counts) → counts_given ≡ k → map_option (line_of_counts r) k ≡ some c
          → LineOfRun r programs stores c
      go h none q f = absurd (Never f)
      go h (some k) q f = record {
        rows_held = let l = leb-true r.rows (length programs / numbers_a_row) h in omega (arith, l);
        counts = k;
        counted = q;
        is = sym (inj f);
      }

  is_line : LineOfRun r programs stores c → line_of_run r programs stores ≡ some c
  is_line l = rw (
    le-leb r.rows (length programs / numbers_a_row) (omega (arith, l.rows_held)),
    l.counted,
  )
      (ap some (sym l.is))

  pub line_if_run : (line_of_run r programs stores ≡ some c) ↔ LineOfRun r programs stores c
  line_if_run = (line_is, is_line)

  run_possible : line_of_run r programs stores ≡ some c → Possible c
  run_possible e = let l = line_is e in
      rw l.is (no_more_spoiled (take (numbers_a_row * r.rows) programs) stores r.objects r.printed
      r.spoiled l.counts l.counted)

pub runs_possible : (rs : List Run) (programs stores : List ℕ) (xs : List Counted)
    → lines_of_runs rs programs stores ≡ map some xs → Each Possible xs
unfolding lines_of_runs
runs_possible rs programs stores [] e = each_nil
runs_possible [] programs stores (x ∷ xs) e = let z : ◌≡◌ {A = ℕ} 0 1 = cc in absurd (omega arith)
runs_possible (r ∷ rs) programs stores (x ∷ xs) e =
    let f : line_of_run r programs stores ≡ some x = cc in
    let g : lines_of_runs rs (drop (numbers_a_row * r.rows) programs)
    (drop (object_width * r.objects) stores)
    ≡ map some xs = cc in
    each_cons (run_possible r programs stores x f)
    (runs_possible rs (drop (numbers_a_row * r.rows) programs) (drop (object_width * r.objects) stores)
    xs g)

-- Counted lines as numbers are read back.
lines_read : (xs : List Counted) → Each Possible xs → lines_in (length xs) (line_numbers xs) ≡ map some xs
unfolding lines_in line_numbers
lines_read [] each_nil = refl
lines_read (x ∷ xs) (each_cons h hs) =
    rw (le-leb x.spoiled x.printed h)
    (ap (λ (cs : List (Option Counted)). some x ∷ cs) (lines_read xs hs))

numbers_counted : (xs : List Counted) → length (line_numbers xs) ≡ numbers_a_line * length xs
unfolding line_numbers
numbers_counted [] = refl
numbers_counted (x ∷ xs) = omega (arith, numbers_counted xs)

-- The report over counted lines as numbers is that over the lines.
pub models_report_of : (xs : List Counted) → Each Possible xs
    → models_report (line_numbers xs) ≡ report_of line_refusal (map some xs)
unfolding models_report counted_lines require
models_report_of xs h =
    let w : length (line_numbers xs) % numbers_a_line ≡ 0 = omega (arith, numbers_counted xs) in
    let l : length (line_numbers xs) / numbers_a_line ≡ length xs = omega (arith, numbers_counted xs) in
    rw (eq-eqb (length (line_numbers xs) % numbers_a_line) 0 w, l, lines_read xs h)

-- Where all lines are counted the number for those that are not does not matter.
sums_number : (n k place : ℕ) (ds xs : List Counted)
    → sums_from n place ds (map some xs) ≡ sums_from k place ds (map some xs)
unfolding sums_from
sums_number n k place ds [] = refl
sums_number n k place ds (x ∷ xs) =
    ap (λ (r : Checked (List Counted)). require (all_within (add x ds)) sum_refusal place λ _. r)
    (sums_number n k (suc place) (add x ds) xs)

-- Where no run is refused for its class, the report over a fleet is that over the counts of its runs.
pub fleet_is_models : (runs programs stores : List ℕ) (xs : List Counted) → length runs % numbers_a_run ≡ 0
    → lines_of_runs (runs_of runs) programs stores ≡ map some xs
    → fleet_report runs programs stores ≡ models_report (line_numbers xs)
unfolding fleet_report report_of require
fleet_is_models runs programs stores xs w e =
    rw (eq-eqb (length runs % numbers_a_run) 0 w, e, sums_number class_refusal line_refusal 1 [] xs)
    (sym (models_report_of xs (runs_possible (runs_of runs) programs stores xs e)))

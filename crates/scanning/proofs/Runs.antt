-- The lines of runs by their places, and what is left of them after some.
use mathlib.Core.Path.{◌≡◌, refl, sym, ap, ◌∙◌}
use mathlib.Core.Bool.{Bool, true, false}
use mathlib.Core.Option.{Option, none, some}
use mathlib.Core.List.{List, [], ◌∷◌}
use Prim.Native.Nat.{ℕ, zero, suc, ◌+◌, ◌-◌, ◌*◌, ◌/◌, ◌≤◌, ◌<◌}
use native.Mathlib.Omega.{arith}
use native.Mathlib.Nat.{add-zero}
use borrow.Author.Tests.{le-leb, lt-leb, leb-true}
use lib.Dec.{leb}
use lib.ListN.{length, get_or, take, drop, length-drop}
use lib.Seq.{get_or-drop, drop-drop}
use Rattle.language.specs.Limits.{object_width}
use Rattle.language.specs.Lists.{nth, nth₀, choice, map_option, Never}
use Rattle.language.specs.Results.{accept, accept≢refuse, bind_checked, require}
use Rattle.language.specs.Rows.{rows_of}
use Rattle.language.specs.Tree.{Program}
use Rattle.language.specs.Form.{form, classes, after, next}
use Rattle.language.specs.Verdict.{check, whole_rows, three_passes}
use Rattle.fleet.specs.Counts.{Counts, run_counts, count_told, classes_in, labels_checked}
use Rattle.fleet.specs.Ranking.{Counted}
use Rattle.fleet.specs.Entries.{counted}
use Rattle.fleet.specs.Fleet.{Run, runs_in, runs_of, line_of_counts, line_of_run, lines_of_runs}
use Rattle.std.specs.Prelude.{Option as Found, None, Ok, Err}
use Rattle.language.specs.Refusals.{refusal}
use Rattle.language.specs.declared.Refusal.{Refusal}
use Rattle.fleet.specs.Counts.{class_refusal, first_place}
use Rattle.fleet.specs.Counts.{labels as labels_as}
use Rattle.fleet.specs.declared.Labels.{Labels}
use Rattle.counting.specs.Knowing.{Knows}
use Rattle.counted.specs.Scanning.{all_models, Modelled, modelled_nil, modelled_none, modelled_some}
use Rattle.counted.proofs.Counts.{Small32, small_drop}

-- No rows are refused.
none_accepted : (p : Program) → check [] ≡ accept p → ⊥
unfolding check whole_rows three_passes require bind_checked rows_of form classes after next
none_accepted p e = accept≢refuse _ _ e

knows_none : (above : List ℕ) → 65 ≤ length above → Knows [] above None
unfolding check whole_rows three_passes require bind_checked rows_of form classes after next
knows_none above l = record { verdict = refl; long = l; tells = λ p e. absurd (none_accepted p e) }

-- The run that numbers begin with, and the run at a place, from 0.
abbrev first_run : List ℕ → Run
first_run ns = record {
  model = get_or ns 0 0;
  rows = get_or ns 1 0;
  objects = get_or ns 2 0;
  printed = get_or ns 3 0;
  spoiled = get_or ns 4 0;
  cents = get_or ns 5 0;
}

abbrev run_at : List ℕ → ℕ → Run
run_at ns i = record {
  model = get_or ns (i * 6) 0;
  rows = get_or ns (i * 6 + 1) 0;
  objects = get_or ns (i * 6 + 2) 0;
  printed = get_or ns (i * 6 + 3) 0;
  spoiled = get_or ns (i * 6 + 4) 0;
  cents = get_or ns (i * 6 + 5) 0;
}

number_at : (ns : List ℕ) (i k : ℕ) → get_or (drop (i * 6) ns) k 0 ≡ get_or ns (i * 6 + k) 0
number_at ns i k = get_or-drop (i * 6) ns k 0

first_at : (ns : List ℕ) (i : ℕ) → get_or (drop (i * 6) ns) 0 0 ≡ get_or ns (i * 6) 0
first_at ns i = number_at ns i 0 ∙ ap (λ (k : ℕ). get_or ns k 0) (add-zero (i * 6))

lines_next : (n : ℕ) (ns P S : List ℕ)
    → lines_of_runs (runs_in (suc n) ns) P S ≡ line_of_run (first_run ns) P S
    ∷ lines_of_runs (runs_in n (drop 6 ns)) (drop (4 * (first_run ns).rows) P)
    (drop (object_width * (first_run ns).objects) S)
unfolding lines_of_runs runs_in
lines_next n ns P S = refl

nth_left : {A : Type 0} (l : List A) (i : ℕ) → nth l i ≡ nth (drop i l) 0
unfolding nth
nth_left [] zero = refl
nth_left [] (suc i) = refl
nth_left (x ∷ l) zero = refl
nth_left (x ∷ l) (suc i) = nth_left l i

-- A store of which labels are counted holds the objects.
objects_held : (R S : List ℕ) (n d e : ℕ) (c : Counts) → run_counts R S n d e ≡ some c
    → n ≤ length S / object_width
unfolding run_counts
objects_held R S n d e c q = go (leb n (length S / object_width)) refl q
  where
    go : (b : Bool) → leb n (length S / object_width) ≡ b
        → choice b (λ _. labels_checked (check R) d e (classes_in n S)) (λ _. none) ≡ some c
        → n ≤ length S / object_width
    go true t _ = leb-true n (length S / object_width) t
    go false t q = absurd (Never q)

-- The case of an answer.
told_labels : (o : Option Counts) (x : Labels) → Ok x ≡ count_told o
    → o ≡ some (record { printed = x.printed; spoiled = x.spoiled })
told_labels none x q = absurd (cc)
told_labels (some c) x q = let e : x ≡ labels_as c.printed c.spoiled = cc in rw e

told_refused : (o : Option Counts) (r : Refusal) → Err r ≡ count_told o → o ≡ none
told_refused none r q = refl
told_refused (some c) r q = absurd (cc)

pub told_number : (o : Option Counts) (r : Refusal) → Err r ≡ count_told o → r.number ≡ class_refusal
told_number none r q = let e : r ≡ refusal class_refusal first_place = cc in ap (λ (r : Refusal). r.number) e
told_number (some c) r q = absurd (cc)

-- How many lines there are, and that their models are numbers of 32 bits.
lines_long : (n : ℕ) (ns P S : List ℕ) → length (lines_of_runs (runs_in n ns) P S) ≡ n
unfolding runs_in lines_of_runs
lines_long zero ns P S = refl
lines_long (suc n) ns P S = ap suc (lines_long n (drop 6 ns) _ _)

pub runs_long : (ns P S : List ℕ) → length (lines_of_runs (runs_of ns) P S) ≡ length ns / 6
unfolding runs_of
runs_long ns P S = lines_long (length ns / 6) ns P S

modelled_lines : (n : ℕ) (ns P S : List ℕ) → Small32 ns → Modelled (lines_of_runs (runs_in n ns) P S)
unfolding runs_in lines_of_runs
modelled_lines zero ns P S h = modelled_nil
modelled_lines (suc n) ns P S h = go (leb (get_or ns 1 0) (length P / 4))
    (run_counts (take (4 * get_or ns 1 0) P) S (get_or ns 2 0) (get_or ns 3 0) (get_or ns 4 0))
    (modelled_lines n (drop 6 ns) (drop (4 * get_or ns 1 0) P) (drop (object_width * get_or ns 2 0) S)
    (small_drop 6 ns h))
  where
    line : (r : Run) (x : Option Counts) {ls : List (Option Counted)} → r.model < all_models → Modelled ls
        → Modelled (map_option (line_of_counts r) x ∷ ls)
    line r none l m = modelled_none m
    line r (some c) l m = modelled_some l m

    go : (b : Bool) (x : Option Counts) {ls : List (Option Counted)} → Modelled ls
        → Modelled (choice b (λ _. map_option (line_of_counts (first_run ns)) x) (λ _. none) ∷ ls)
    go true x m = line (first_run ns) x (h 0) m
    go false x m = modelled_none m

pub modelled_runs : (ns P S : List ℕ) → Small32 ns → Modelled (lines_of_runs (runs_of ns) P S)
unfolding runs_of
modelled_runs ns P S h = modelled_lines (length ns / 6) ns P S h

module _ (runs programs stores : List ℕ) where
  abbrev all_lines : List (Option Counted)
  all_lines = lines_of_runs (runs_of runs) programs stores

  -- The lines from run i on, whose rows begin at one place and whose objects at another.
  abbrev lines_from : ℕ → ℕ → ℕ → List (Option Counted)
  lines_from i at from =
      lines_of_runs (runs_in (length runs / 6 - i) (drop (i * 6) runs)) (drop at programs) (drop from stores)

  -- After i runs: what is known of the rows of the last of them, and the lines that are left.
  pub record Left (above : List ℕ) (known : Found ℕ) (before at from i : ℕ) : Type 0 where
    pub lines : drop i all_lines ≡ lines_from i at from
    pub after : before ≤ at
    pub rows_within : at ≤ length programs
    pub objects_within : from ≤ length stores
    pub knows : Knows (take (at - before) (drop before programs)) above known

  pub left_start : (above : List ℕ) → 65 ≤ length above → Left above None 0 0 0 0
  unfolding runs_of
  left_start above l = let z : length runs / 6 - 0 ≡ length runs / 6 = omega arith in record {
    lines = rw z refl;
    after = omega arith;
    rows_within = omega arith;
    objects_within = omega arith;
    knows = knows_none above l;
  }

  module _ {above : List ℕ} {known : Found ℕ} {before at from i : ℕ} (p : Left above known before at from i)
      (l : i * 6 + 5 < length runs) where
    abbrev run : Run
    run = run_at runs i

    next-lines : drop i all_lines ≡ line_of_run run (drop at programs) (drop from stores)
        ∷ lines_from (i + 1) (at + run.rows * 4) (from + run.objects * object_width)
    next-lines =
        let q : length runs / 6 - i ≡ suc (length runs / 6 - (i + 1)) = omega (arith, l) in
        let a : i * 6 + 6 ≡ (i + 1) * 6 = omega arith in
        let b : at + 4 * run.rows ≡ at + run.rows * 4 = omega arith in
        let d : from + object_width * run.objects ≡ from + run.objects * object_width = omega arith in
        p.lines ∙ rw (
          q,
          lines_next (length runs / 6 - (i + 1)) (drop (i * 6) runs) (drop at programs)
              (drop from stores),
          first_at runs i,
          number_at runs i 1,
          number_at runs i 2,
          number_at runs i 3,
          number_at runs i 4,
          number_at runs i 5,
          drop-drop 6 (i * 6) runs,
          drop-drop (4 * run.rows) at programs,
          drop-drop (object_width * run.objects) from stores,
          a,
          b,
          d,
        ) refl

    next_line : nth all_lines i ≡ some (line_of_run run (drop at programs) (drop from stores))
    next_line = nth_left all_lines i ∙ ap (λ z. nth z 0) next-lines ∙ nth₀ _ _

    pub rows_refused : (length programs - at) / 4 < run.rows → nth all_lines i ≡ some none
    rows_refused h =
        next_line ∙ rw (length-drop at programs, lt-leb run.rows ((length programs - at) / 4) h) refl

    module _ (h : run.rows ≤ (length programs - at) / 4) where
      abbrev counts : Option Counts
      counts = run_counts (take (at + run.rows * 4 - at) (drop at programs)) (drop from stores)
          run.objects
          run.printed run.spoiled

      counts-line : nth all_lines i ≡ some (map_option (line_of_counts run) counts)
      counts-line =
          let q : at + run.rows * 4 - at ≡ 4 * run.rows = omega arith in
          next_line ∙ rw (length-drop at programs, le-leb run.rows ((length programs - at) / 4) h, q) refl

      pub run_refused : (r : Refusal) → Err r ≡ count_told counts → nth all_lines i ≡ some none
      run_refused r t = counts-line ∙ rw (told_refused counts r t) refl

      module _ (x : Labels) (t : Ok x ≡ count_told counts) where
        labels : counts ≡ some (record { printed = x.printed; spoiled = x.spoiled })
        labels = told_labels counts x t

        pub run_counted : nth all_lines i ≡ some (some (counted run.model x.printed x.spoiled run.cents))
        run_counted = counts-line ∙ rw labels refl

        pub store_holds : from + run.objects * object_width ≤ length stores
        store_holds = omega (
          arith,
          p.objects_within,
          length-drop from stores,
          objects_held _ (drop from stores) run.objects _ _ _ labels,
        )

        pub left_next : {above' : List ℕ} {known' : Found ℕ}
            → Knows (take (at + run.rows * 4 - at) (drop at programs)) above' known'
            → Left above' known' at (at + run.rows * 4) (from + run.objects * object_width) (i + 1)
        left_next k = record {
          lines = sym (drop-drop 1 i all_lines) ∙ ap (λ z. drop 1 z) next-lines;
          after = omega arith;
          rows_within = omega (arith, h, p.rows_within);
          objects_within = store_holds;
          knows = k;
        }

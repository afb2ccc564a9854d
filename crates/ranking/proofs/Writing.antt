-- What holds between two windows while all are written.
use mathlib.Core.Path.{◌≡◌, refl, sym, ap, ◌∙◌}
use mathlib.Core.Bool.{Bool, true, false, cond}
use mathlib.Core.Option.{Option, none, some}
use mathlib.Core.List.{List, [], ◌∷◌, ◌++◌}
use Prim.Native.Nat.{ℕ, ◌+◌, ◌≤◌, ◌<◌}
use native.Mathlib.Omega.{arith}
use lib.ListN.{length, length-append, take, drop}
use lib.Seq.{take-length}
use Rattle.language.specs.Results.{accept≢refuse}
use Rattle.language.specs.WellFormed.{Each, each_nil, each_cons}
use Rattle.language.proofs.Booleans.{and_inv}
use Rattle.fleet.specs.Ranking.{Counted, add, is_within, all_within, line_of, lines_of, ranked}
use Rattle.fleet.specs.Entries.{entries}
use Rattle.fleet.specs.LineLists.{Distinct, distinct_nil, in_models}
use Rattle.fleet.proofs.Summing.{add_distinct}
use Rattle.fleet.specs.LineLists.{merged}
use Rattle.fleet.proofs.Sorting.{ranked_sorted, ranked_append, ranked_unique, ranked_permuted}
use Rattle.fleet.proofs.Sorting.{permuted_back, distinct_permuted, each_permuted}
use Rattle.reports.specs.Places.{Printable}
use Rattle.sums.specs.Window.{in_window, Open}
use Rattle.sums.proofs.Adding.{sized_same}
use Rattle.sums.proofs.Windows.{all_same, each_chosen, distinct_chosen, within_chosen}
use Rattle.counted.specs.declared.Scan.{Scan}
use Rattle.std.specs.Prelude.{Option as Found, Some, None}
use Rattle.counted.specs.Lines.{all_count, summing, summed}
use Rattle.counted.specs.Scanning.{all_models, Modelled, Reached, Scanned}
use Rattle.ranking.specs.Judging.{Lent, Standing, Ready, Whole, Written}
use Rattle.ranking.proofs.Measuring.{lines_append, lines_permuted, lines_ranked}
use Rattle.ranking.proofs.Judging.{windows_meet, window_none, clean_earlier}
use Rattle.ranking.proofs.Ending.{Small, summed_small, sums_all, sums_refuse, all_windows}
use Rattle.ranking.proofs.Merging.{standing_written, past_same}

-- The sums of lines are of different models.
summed_distinct : (ds : List Counted) (ls : List (Option Counted)) → Distinct ds → Distinct (summing ds ls)
unfolding summing
summed_distinct ds [] h = h
summed_distinct ds (none ∷ ls) h = summed_distinct ds ls h
summed_distinct ds (some c ∷ ls) h = summed_distinct (add c ds) ls (add_distinct c ds h)

-- Some of the lines are no longer than all of them.
lines_less : (p : ℕ → Bool) (ds : List Counted) → length (lines_of (in_models p ds)) ≤ length (lines_of ds)
unfolding in_models lines_of
lines_less p [] = omega arith
lines_less p (d ∷ ds) = go (p d.model) (lines_less p ds)
  where
    go : (b : Bool) → length (lines_of (in_models p ds)) ≤ length (lines_of ds)
        → length (lines_of (cond b (d ∷ in_models p ds) (in_models p ds))) ≤ length (line_of d ++ lines_of ds)
    go true l = rw (
      length-append (line_of d) (lines_of (in_models p ds)),
      length-append (line_of d)
          (lines_of ds),
    )
        (omega (arith, l))
    go false l = rw (length-append (line_of d) (lines_of ds)) (omega (arith, l))

printable_each : (ds : List Counted) → all_within ds ≡ true → Each Small ds → Each Printable ds
unfolding all_within
printable_each [] e each_nil = each_nil
printable_each (d ∷ ds) e (each_cons h hs) = let x = and_inv (is_within d) (all_within ds) e in
    each_cons (record { within = x.0; model = h }) (printable_each ds x.1 hs)

module _ (ls : List (Option Counted)) where
  -- The sums of the models below a number.
  abbrev pub lower : ℕ → List Counted
  lower low = in_models (in_window 0 low) (summed ls)

  -- Their lines are written.
  pub record Writing (old report : List ℕ) (low have : ℕ) : Type 0 where
    pub less : low ≤ all_models
    pub long : have ≡ length (lines_of (lower low))
    pub are : report ≡ lines_of (ranked (lower low)) ++ drop have old

  pub writing_start : (old : List ℕ) → Writing old old 0 0
  unfolding lines_of ranked
  writing_start old = record {
    less = omega arith;
    long = ap (λ (xs : List Counted). length (lines_of xs)) (sym (window_none (summed ls)));
    are = ap (λ (xs : List Counted). lines_of (ranked xs) ++ old) (sym (window_none (summed ls)));
  }

module _ (ls : List (Option Counted)) (modelled : Modelled ls) (clean : all_within (summed ls) ≡ true) where
  printable : (low : ℕ) → Each Printable (ranked (lower ls low))
  printable low = each_permuted (ranked_permuted (lower ls low)) (printable_each (lower ls low)
      (within_chosen (in_window 0 low) (summed ls) clean)
      (each_chosen Small (in_window 0 low) (summed ls) (summed_small modelled)))

  -- One window more.
  meets : (low end : ℕ) → low ≤ end
      → merged (ranked (lower ls low)) (ranked (in_models (in_window low end) (summed ls)))
      ≡ ranked (lower ls end)
  meets low end l = let p = windows_meet low end l (summed ls) in
      sym (ranked_append (lower ls low) (in_models (in_window low end) (summed ls)))
      ∙ ranked_unique p (distinct_permuted (permuted_back p)
      (distinct_chosen (in_window 0 end) (summed ls) (summed_distinct [] ls distinct_nil)))

  longer : (low end : ℕ) → low ≤ end
      → length (lines_of (lower ls low)) + length (lines_of (in_models (in_window low end) (summed ls)))
      ≡ length (lines_of (lower ls end))
  longer low end l = sym (lines_append (lower ls low) (in_models (in_window low end) (summed ls)))
      ∙ lines_permuted (windows_meet low end l (summed ls))

  module _ {old report : List ℕ} {low have : ℕ} (w : Writing ls old report low have) where
    have-is : have ≡ length (lines_of (ranked (lower ls low)))
    have-is = w.long ∙ sym (lines_ranked (lower ls low))

    pub writing_stands : Standing report have (ranked (lower ls low))
    writing_stands = standing_written report old have (ranked (lower ls low)) w.are have-is
        (ranked_sorted (lower ls low)) (printable low)

    pub writing_room : (end bytes : ℕ) (es : List Counted) → low ≤ end → length (lines_of (summed ls)) ≤ bytes
        → es ≡ in_models (in_window low end) (summed ls) → have + length (lines_of es) ≤ bytes
    writing_room end bytes es l b q = rw q
        (omega (arith, w.long, longer low end l, lines_less (in_window 0 end) (summed ls), b))

    pub writing_next : (report' : List ℕ) (end have' : ℕ) (es : List Counted) → low ≤ end → end ≤ all_models
        → es ≡ in_models (in_window low end) (summed ls) → have' ≡ have + length (lines_of es)
        → report' ≡ lines_of (merged (ranked (lower ls low)) (ranked es)) ++ drop have' report
        → Writing ls old report' end have'
    writing_next report' end have' es l m q h e = record {
      less = m;
      long = h ∙ rw q (ap (λ (n : ℕ). n + length (lines_of (in_models (in_window low end) (summed ls))))
          w.long ∙ longer low end l);
      are = e ∙ rw (
        h,
        past_same report old have (length (lines_of es)) (ranked (lower ls low)) w.are
            have-is,
      )
          (ap (λ (xs : List Counted). lines_of xs ++ drop (have + length (lines_of es)) old)
          (ap (λ (xs : List Counted). merged (ranked (lower ls low)) (ranked xs)) q ∙ meets low end l));
    }

-- After a scan the sums are ready to be put in order.
ready : {number : ℕ} {ls : List (Option Counted)} {limit low : ℕ} {T H N T' H' N' : List ℕ} {s : Scan}
    → Scanned number ls limit low T H N T' H' N' s → Lent T H N → Open T' H' N' low s.window
    → Ready T' H' N' s.window.count
ready c l o = let k = c.kept in record {
  table = omega (arith, o.sums.count, o.sums.sized.table);
  few = omega (arith, o.sums.count, o.sums.sized.most);
  order_long = omega (arith, o.sums.count, l.heads_long, k.1.0, k.1.1);
  spare_long = o.sums.count;
  within = o.sums.within;
}

-- Lines that all count, with sums that stay within the largest, are refused by no scan.
module _ (number : ℕ) (ls : List (Option Counted)) (count : all_count ls ≡ true)
    (clean : all_within (summed ls) ≡ true) where
  whole : Reached number ls (length ls) (length ls) None
  whole = record {
    within = omega arith;
    count = rw (take-length ls) count;
    end = λ _. refl;
    fault = λ k f. absurd (cc);
  }

  earlier : (place : ℕ) → place ≤ length ls → all_within (summed (take place ls)) ≡ true
  earlier place l = rw (all_same (summed (take place ls))) at (clean_earlier (λ _. true) ls place (length ls)
      l
      (rw (take-length ls, all_same (summed ls)) clean))

  pub scan_counts : (place : ℕ) (found : Found ℕ) → Reached number ls (length ls) place found → found ≡ None
  scan_counts place None r = refl
  scan_counts place (Some k) r = absurd (accept≢refuse k (place + 1)
      (sym (sums_refuse r (earlier place r.within) k refl)
      ∙ (sums_all whole (rw (take-length ls) clean) refl).0))

  module _ {low : ℕ} {T H N T' H' N' : List ℕ} {s : Scan}
      (c : Scanned number ls (length ls) low T H N T' H' N' s) where
    none-refused : s.refusal ≡ None
    none-refused = scan_counts s.place s.refusal c.reached

    pub scan_holds : entries T' s.window.count ≡ in_models (in_window low s.window.end) (summed ls)
    scan_holds = c.holds none-refused ∙ rw (c.reached.end none-refused, take-length ls) refl

    pub scan_ready : Lent T H N → Ready T' H' N' s.window.count
    scan_ready l = ready c l (c.opened none-refused)

-- The slices fit together while their lengths stay.
pub lent_same : {T H N T' H' N' : List ℕ} → length T' ≡ length T → length H' ≡ length H → length N' ≡ length N
    → Lent T H N → Lent T' H' N'
lent_same t h n l = record {
  sized = sized_same t h n l.sized;
  heads_long = omega
      (arith, l.heads_long, n, h);
}

-- Between two windows, with all that is lent.
pub record WritingAll (ls : List (Option Counted)) (R₀ T₀ H₀ N₀ R T H N : List ℕ) (low have : ℕ) : Type 0
  where
    pub writing : Writing ls R₀ R low have
    pub lent : Lent T H N
    pub report : length R ≡ length R₀
    pub tables : (length T ≡ length T₀) × ((length H ≡ length H₀) × (length N ≡ length N₀))

-- After the last window.
pub written_all : {ls : List (Option Counted)} {old new : List ℕ} {low have : ℕ} → Modelled ls
    → Writing ls old new low have → all_models ≤ low → Written ls old new have
written_all {ls} {old} {new} {low} {have} m w l =
    let q : low ≡ all_models = omega (arith, l, w.less) in
    let a : in_models (in_window 0 low) (summed ls) ≡ summed ls =
    ap (λ (n : ℕ). in_models (in_window 0 n) (summed ls)) q
    ∙ rw (take-length ls) at (all_windows m (length ls)) in
    record {
      long = w.long ∙ ap (λ (xs : List Counted). length (lines_of xs)) a;
      are = w.are ∙ ap (λ (xs : List Counted). lines_of (ranked xs) ++ drop have old) a;
    }

-- A scan in one window of all models.
pub whole_scan : {number : ℕ} {ls : List (Option Counted)} {T H N T' H' N' : List ℕ} {s : Scan} → Modelled ls
    → Scanned number ls (length ls) 0 T H N T' H' N' s → s.window.end ≡ all_models → Lent T H N
    → s.place < 18446744073709551615 → Whole number ls T' H' N' s
whole_scan {number} {ls} {T} {H} {N} {T'} {H'} {N'} {s} m c e l small = record {
  reached = c.reached;
  small = small;
  clean = rw (all_windows m s.place) at (rw e at c.clean);
  holds = λ z. rw (take-length ls) at (rw (c.reached.end z) at (rw
      (all_windows m s.place) at (rw e at (c.holds z))));
  ready = λ z. ready c l (c.opened z);
}

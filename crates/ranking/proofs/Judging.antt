-- Windows of models one after another, and what their judgement says of all lines.
use mathlib.Core.Path.{◌≡◌, refl, sym, ap, ◌∙◌}
use mathlib.Core.Bool.{Bool, true, false, ◌&&◌, cond}
use mathlib.Core.Logic.{inl, inr}
use mathlib.Core.Option.{Option}
use mathlib.Core.List.{List, [], ◌∷◌, ◌++◌}
use Prim.Native.Nat.{ℕ, ◌≤◌, ◌<◌}
use native.Mathlib.Omega.{arith}
use borrow.Author.Tests.{le-leb, lt-leb, lt-ltb, le-ltb}
use lib.ListN.{length, take, drop, take-append-drop}
use lib.Seq.{take-take}
use Rattle.language.proofs.Booleans.{and_inv}
use Rattle.language.proofs.Lines.{le_or_less}
use Rattle.fleet.specs.Ranking.{Counted, is_within, all_within, lines_of}
use Rattle.fleet.specs.Entries.{entries}
use Rattle.fleet.specs.LineLists.{in_models}
use Rattle.fleet.specs.LineLists.{Permuted, permuted_nil, permuted_cons, permuted_swap, permuted_then}
use Rattle.fleet.proofs.Sorting.{permuted_back, permuted_middle}
use Rattle.sums.specs.Window.{in_window}
use Rattle.counted.specs.declared.Scan.{Scan}
use Rattle.counted.specs.Lines.{summing, summed}
use Rattle.counted.specs.Scanning.{all_models, window_sums}
use Rattle.counted.proofs.Windows.{summing_append, summing_before}
use Rattle.ranking.specs.declared.Judged.{Judged}
use Rattle.std.specs.Prelude.{Option as Found, Some, None}
use Rattle.std.specs.Option.{is_some}
use Rattle.ranking.specs.Judging.{Measured, Judging, JudgesNext}
use Rattle.ranking.proofs.Measuring.{lines_permuted}

-- What a test of an option tells.
pub some_is : (o : Found ℕ) → is_some o ≡ true → (k : ℕ) × (o ≡ Some k)
some_is (Some k) e = (k, refl)
some_is None e = absurd (cc)

pub none_is : (o : Found ℕ) → is_some o ≡ false → o ≡ None
none_is (Some k) e = absurd (cc)
none_is None e = refl

-- Sums are within the largest together, and in any order.
within_append : (xs ys : List Counted) → all_within xs ≡ true → all_within ys ≡ true
    → all_within (xs ++ ys) ≡ true
unfolding all_within
within_append [] ys x y = y
within_append (c ∷ xs) ys x y = let h = and_inv (is_within c) (all_within xs) x in
    rw (h.0, within_append xs ys h.1 y) refl

within_permuted : {xs ys : List Counted} → Permuted xs ys → all_within xs ≡ true → all_within ys ≡ true
unfolding all_within
within_permuted permuted_nil x = x
within_permuted (permuted_cons {a} {xs} p) x = let h = and_inv (is_within a) (all_within xs) x in
    rw (h.0, within_permuted p h.1) refl
within_permuted (permuted_swap {a} {b} {xs}) x =
    let h = and_inv (is_within a) (is_within b && all_within xs) x in
    let k = and_inv (is_within b) (all_within xs) h.1 in
    rw (h.0, k.0, k.1) refl
within_permuted (permuted_then p q) x = within_permuted q (within_permuted p x)

-- Two windows side by side have the sums of the window that they make.
module _ (low end : ℕ) (l : low ≤ end) where
  lower : (m : ℕ) → m < low
      → (in_window 0 low m ≡ true) × ((in_window low end m ≡ false) × (in_window 0 end m ≡ true))
  lower m h = let z = le-leb 0 m (omega arith) in (
    rw (z, lt-ltb m low h) refl,
    (rw (lt-leb low m h) refl, rw (z, lt-ltb m end (omega (arith, h, l))) refl),
  )

  upper : (m : ℕ) → low ≤ m → (in_window 0 low m ≡ false) × (in_window low end m ≡ in_window 0 end m)
  upper m h = let z = le-leb 0 m (omega arith) in
      (rw (z, le-ltb m low h) refl, rw (z, le-leb low m h) refl)

  pub windows_meet : (ds : List Counted)
      → Permuted (in_models (in_window 0 low) ds ++ in_models (in_window low end) ds)
      (in_models (in_window 0 end) ds)
  unfolding in_models
  windows_meet [] = permuted_nil
  windows_meet (d ∷ ds) = elim (le_or_less low d.model) [
    | inl h ↦ let u = upper d.model h in
        rw (u.0, u.1) (go (in_window 0 end d.model) (windows_meet ds))
    | inr h ↦ let u = lower d.model h in rw (u.0, u.1.0, u.1.1) (permuted_cons (windows_meet ds))
  ]
    where
      go : (b : Bool) → Permuted (in_models (in_window 0 low) ds ++ in_models (in_window low end) ds)
          (in_models (in_window 0 end) ds)
          → Permuted (in_models (in_window 0 low) ds ++ cond b (d ∷ in_models (in_window low end) ds)
          (in_models (in_window low end) ds))
          (cond b (d ∷ in_models (in_window 0 end) ds) (in_models (in_window 0 end) ds))
      go true r = permuted_then
          (permuted_back (permuted_middle d (in_models (in_window 0 low) ds)
          (in_models (in_window low end) ds)))
          (permuted_cons r)
      go false r = r

  -- None of the sums is past the largest where none of either window is.
  within_windows : (ds : List Counted) → all_within (in_models (in_window 0 low) ds) ≡ true
      → all_within (in_models (in_window low end) ds) ≡ true
      → all_within (in_models (in_window 0 end) ds) ≡ true
  within_windows ds a b = within_permuted (windows_meet ds)
      (within_append (in_models (in_window 0 low) ds) (in_models (in_window low end) ds) a b)

-- Sums that were not past the largest later were not past it earlier.
module _ (p : ℕ → Bool) (ls : List (Option Counted)) (k n : ℕ) (l : k ≤ n) where
  pub clean_earlier : all_within (in_models p (summed (take n ls))) ≡ true
      → all_within (in_models p (summed (take k ls))) ≡ true
  clean_earlier e = summing_before p (summed (take k ls)) (drop k (take n ls)) (rw parts at e)
    where
      parts : summed (take n ls) ≡ summing (summed (take k ls)) (drop k (take n ls))
      parts = ap summed (sym (take-append-drop k (take n ls)))
          ∙ rw (take-take k n ls l) (summing_append [] (take k ls) (drop k (take n ls)))

measured_permuted : (bytes : ℕ) (room : Found ℕ) {xs ys : List Counted} → Permuted xs ys → Measured bytes room xs
    → Measured bytes room ys
measured_permuted bytes (Some left) p m = rw (sym (lines_permuted p)) m
measured_permuted bytes None p m = rw (sym (lines_permuted p)) m

module _ {number : ℕ} {ls : List (Option Counted)} {bytes low : ℕ} {j : Judged} {T : List ℕ} {s : Scan}
    (n : JudgesNext number ls bytes low j T s) where
  less : s.place ≤ j.place
  less = n.reached.within

  both : all_within (window_sums 0 s.window.end ls s.place) ≡ true
  both = within_windows low s.window.end (omega (arith, n.wide)) (summed (take s.place ls))
      (clean_earlier (in_window 0 low) ls s.place j.place less n.judging.clean) n.clean

  -- A line of this window is refused.
  pub judge_earlier : (r : Judged) (k : ℕ) → s.refusal ≡ Some k → r.place ≡ s.place → r.refusal ≡ s.refusal
      → Judging number ls bytes s.window.end r
  judge_earlier r k f p q = record {
    within = omega (arith, p, less, n.judging.within);
    count = λ _. rw p n.reached.count;
    end = λ z. absurd (cc);
    fault = λ m z. rw p (n.reached.fault m (sym q ∙ z));
    clean = rw p both;
    measured = λ z. absurd (cc);
  }

  same : s.refusal ≡ None → s.place ≡ j.place
  same z = n.reached.end z

  -- None of this window, but one of another was.
  pub judge_same : (k : ℕ) → s.refusal ≡ None → j.refusal ≡ Some k → Judging number ls bytes s.window.end j
  judge_same k z f = record {
    within = n.judging.within;
    count = λ _. rw (same z) at n.reached.count;
    end = n.judging.end;
    fault = n.judging.fault;
    clean = rw (sym (same z)) both;
    measured = λ q. absurd (cc);
  }

  -- None so far.
  pub judge_more : (r : Judged) → s.refusal ≡ None → j.refusal ≡ None → r.place ≡ j.place → r.refusal ≡ None
      → Measured bytes r.room (window_sums 0 low ls (length ls) ++ entries T s.window.count)
      → Judging number ls bytes s.window.end r
  judge_more r z f p q m = let w = n.judging.end f in record {
    within = omega (arith, p, w);
    count = λ _. rw (p, sym (same z)) n.reached.count;
    end = λ _. p ∙ w;
    fault = λ k x. absurd (cc);
    clean = rw (p, sym (same z)) both;
    measured = λ _. measured_permuted bytes r.room (windows_meet low s.window.end (omega (arith, n.wide))
        (summed (take (length ls) ls)))
        (rw (n.holds z, same z ∙ w) at m);
  }

-- No model is below 0.
pub window_none : (ds : List Counted) → in_models (in_window 0 0) ds ≡ []
unfolding in_models
window_none [] = refl
window_none (d ∷ ds) =
    rw (le-leb 0 d.model (omega arith), le-ltb d.model 0 (omega arith)) (window_none ds)

-- Before the first window.
pub judge_none : (number : ℕ) (ls : List (Option Counted)) (bytes : ℕ) (j : Judged) → j.place ≡ length ls
    → j.refusal ≡ None → j.room ≡ Some bytes → Judging number ls bytes 0 j
unfolding in_models all_within lines_of
judge_none number ls bytes j p q f = record {
  within = omega (arith, p);
  count = λ z. absurd (omega (arith, z));
  end = λ _. p;
  fault = λ k x. absurd (cc);
  clean = rw (window_none (summed (take j.place ls))) refl;
  measured = λ _. rw (f, window_none (summed (take (length ls) ls))) (omega arith);
}

-- After the last window.
pub judged_all : {number : ℕ} {ls : List (Option Counted)} {bytes low : ℕ} {j : Judged}
    → Judging number ls bytes low j
    → low ≤ all_models → all_models ≤ low → Judging number ls bytes all_models j
judged_all {number} {ls} {bytes} {low} {j} h l m = let q : low ≡ all_models = omega (arith, l, m) in rw q at h

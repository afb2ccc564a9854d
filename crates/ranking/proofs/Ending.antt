-- What the judgement of all windows says of the sums, and with the report of the answer.
use mathlib.Core.Path.{◌≡◌, refl, sym, ap, ◌∙◌}
use mathlib.Core.Bool.{Bool, true, false}
use mathlib.Core.Option.{Option, none, some}
use mathlib.Core.List.{List, [], ◌∷◌, ◌++◌}
use Prim.Native.Nat.{ℕ, zero, suc, ◌+◌, ◌≤◌, ◌<◌}
use native.Mathlib.Omega.{arith}
use native.Mathlib.Nat.{add-zero}
use borrow.Author.Tests.{le-leb, lt-ltb}
use lib.Dec.{eqb}
use lib.ListN.{length, take, drop, take-append-drop}
use lib.Seq.{length-take-le, take-length, drop-length}
use Rattle.language.specs.Lists.{nth, Never, inj, choice}
use Rattle.language.specs.Results.{accept, refuse, require, bind_checked}
use Rattle.language.specs.WellFormed.{Each, each_nil, each_cons}
use Rattle.language.specs.Filling.{buffer}
use Rattle.language.proofs.Filling.{held_fits, held_short}
use Rattle.language.proofs.Booleans.{false≢}
use Rattle.fleet.specs.Ranking.{Counted, add, plus, all_within, lines_of, ranked, sums_from, sums, report_of}
use Rattle.fleet.specs.Ranking.{report_answer}
use Rattle.std.specs.Prelude.{Option as Found, Some, None, Ok, Err}
use Rattle.fleet.specs.Ranking.{fault}
use Rattle.fleet.specs.LineLists.{in_models}
use Rattle.sums.specs.Window.{in_window}
use Rattle.sums.proofs.Windows.{all_same}
use Rattle.counted.specs.Lines.{all_count, summing, summed}
use Rattle.counted.specs.Scanning.{all_models, Modelled, modelled_nil, modelled_none, modelled_some}
use Rattle.counted.specs.Scanning.{Fault, no_line, past_sum, Reached, window_sums}
use Rattle.counted.proofs.Windows.{summing_before}
use Rattle.ranking.specs.declared.Judged.{Judged}
use Rattle.ranking.specs.Judging.{Measured, Judging}
use Rattle.ranking.proofs.Measuring.{lines_ranked}

-- Lines that count, and whose sums stay within the largest, are passed.
sums_pass : (number p : ℕ) (ds : List Counted) (xs rest : List (Option Counted)) → all_count xs ≡ true
    → all_within (summing ds xs) ≡ true
    → sums_from number p ds (xs ++ rest) ≡ sums_from number (p + length xs) (summing ds xs) rest
unfolding all_count summing sums_from require
sums_pass number p ds [] rest c w = rw (add-zero p) refl
sums_pass number p ds (none ∷ xs) rest c w = false≢ c
sums_pass number p ds (some x ∷ xs) rest c w =
    let q : suc p + length xs ≡ p + suc (length xs) = omega arith in
    let z : all_within (add x ds) ≡ true = rw (all_same (add x ds)) at
    (summing_before (λ _. true) (add x ds) xs (rw (all_same (summing (add x ds) xs)) w)) in
    rw (z, sym q) (sums_pass number (suc p) (add x ds) xs rest c w)

drop_at : {A : Type 0} (l : List A) (i : ℕ) (a : A) → nth l i ≡ some a → drop i l ≡ a ∷ drop (suc i) l
unfolding nth
drop_at [] i a e = absurd (Never e)
drop_at (x ∷ l) zero a e = ap (λ z. z ∷ l) (inj e)
drop_at (x ∷ l) (suc i) a e = drop_at l i a e

module _ {number : ℕ} {ls : List (Option Counted)} {place : ℕ} {found : Found ℕ}
    (r : Reached number ls (length ls) place found)
    (clean : all_within (summed (take place ls)) ≡ true) where
  passed : sums number ls ≡ sums_from number (1 + place) (summed (take place ls)) (drop place ls)
  passed = ap (sums number) (sym (take-append-drop place ls))
      ∙ (sums_pass number 1 [] (take place ls) (drop place ls) r.count clean
      ∙ ap (λ (n : ℕ). sums_from number (1 + n) (summed (take place ls)) (drop place ls))
      (length-take-le place ls r.within))

  -- No line is refused.
  pub sums_all : found ≡ None → (sums number ls ≡ accept (summed ls)) × (all_within (summed ls) ≡ true)
  unfolding sums_from
  sums_all z = let p = r.end z in
      (passed ∙ rw (p, drop-length ls, take-length ls) refl, rw (take-length ls) at (rw p at clean))

  -- One is.
  pub sums_refuse : (k : ℕ) → found ≡ Some k → sums number ls ≡ refuse k (place + 1)
  unfolding sums_from require
  sums_refuse k f = passed ∙ go k (r.fault k f)
    where
      q : 1 + place ≡ place + 1
      q = omega arith

      go : (k : ℕ) → Fault number ls place k
          → sums_from number (1 + place) (summed (take place ls)) (drop place ls) ≡ refuse k (place + 1)
      go k (no_line e) = rw (drop_at ls place none e, q) refl
      go k (past_sum c e w) = rw (drop_at ls place (some c) e, w, q) refl

-- The models of lines are numbers of 32 bits, so those of their sums are.
abbrev pub Small : Counted → Type 0
Small c = c.model < all_models

add_small : (c : Counted) (ds : List Counted) → c.model < all_models → Each Small ds → Each Small (add c ds)
unfolding add
add_small c [] l each_nil = each_cons l each_nil
add_small c (d ∷ ds) l (each_cons h hs) = go (eqb d.model c.model) (add_small c ds l hs)
  where
    go : (b : Bool) → Each Small (add c ds) → Each Small (choice b (λ _. plus d c ∷ ds) (λ _. d ∷ add c ds))
    go true r = each_cons h hs
    go false r = each_cons h r

summing_small : (ds : List Counted) (ls : List (Option Counted)) (k : ℕ) → Modelled ls → Each Small ds
    → Each Small (summing ds (take k ls))
unfolding summing
summing_small ds ls zero m e = e
summing_small ds [] (suc k) modelled_nil e = e
summing_small ds (none ∷ ls) (suc k) (modelled_none m) e = summing_small ds ls k m e
summing_small ds (some c ∷ ls) (suc k) (modelled_some l m) e =
    summing_small (add c ds) ls k m (add_small c ds l e)

pub summed_small : {ls : List (Option Counted)} → Modelled ls → Each Small (summed ls)
summed_small {ls} m = rw (take-length ls) at (summing_small [] ls (length ls) m each_nil)

-- So the window of all models has all sums.
pub all_windows : {ls : List (Option Counted)} → Modelled ls → (k : ℕ)
    → window_sums 0 all_models ls k ≡ summed (take k ls)
unfolding in_models
all_windows {ls} m k = every (summed (take k ls)) (summing_small [] ls k m each_nil)
  where
    every : (ds : List Counted) → Each Small ds → in_models (in_window 0 all_models) ds ≡ ds
    every [] each_nil = refl
    every (d ∷ ds) (each_cons h hs) =
        rw (le-leb 0 d.model (omega arith), lt-ltb d.model all_models h, every ds hs) refl

-- The answer and the bytes.
module _ (number : ℕ) (ls : List (Option Counted)) (old : List ℕ) where
  pub refused_report : (n k : ℕ) → sums number ls ≡ refuse n k
      → (Err (fault n k) ≡ report_answer (report_of number ls) (length old))
      × (old ≡ buffer (report_of number ls) old)
  unfolding report_of bind_checked
  refused_report n k e = rw e (refl, refl)

  pub short_report : (ds : List Counted) → sums number ls ≡ accept ds → length old < length (lines_of ds)
      → (Err (fault 13 0) ≡ report_answer (report_of number ls) (length old))
      × (old ≡ buffer (report_of number ls) old)
  unfolding report_of bind_checked
  short_report ds e l =
      rw (e, held_short (length old) (lines_of (ranked ds)) (omega (arith, l, lines_ranked ds))) (refl, refl)

  pub whole_report : (ds : List Counted) (new : List ℕ) (r : ℕ) → sums number ls ≡ accept ds
      → length (lines_of ds) ≤ length old → r ≡ length (lines_of ds)
      → new ≡ lines_of (ranked ds) ++ drop r old
      → (Ok r ≡ report_answer (report_of number ls) (length old)) × (new ≡ buffer (report_of number ls) old)
  unfolding report_of bind_checked
  whole_report ds new r e l q n = let z = lines_ranked ds in
      rw (e, held_fits (length old) (lines_of (ranked ds)) (omega (arith, l, z)), z)
      (ap Ok q, n ∙ rw q refl)

-- What the judgement of all models says.
module _ {number : ℕ} {ls : List (Option Counted)} {bytes : ℕ} {j : Judged} (m : Modelled ls)
    (h : Judging number ls bytes all_models j) where
  judged : Reached number ls (length ls) j.place j.refusal
  judged = record { within = h.within; count = h.count (omega arith); end = h.end; fault = h.fault }

  clean_all : all_within (summed (take j.place ls)) ≡ true
  clean_all = rw (all_windows m j.place) at h.clean

  pub judged_refuse : (k : ℕ) → j.refusal ≡ Some k → sums number ls ≡ refuse k (j.place + 1)
  judged_refuse k f = sums_refuse judged clean_all k f

  pub judged_sums : j.refusal ≡ None
      → (sums number ls ≡ accept (summed ls)) × ((all_count ls ≡ true) × (all_within (summed ls) ≡ true))
  judged_sums z = let a = sums_all judged clean_all z in
      (a.0, (rw (take-length ls) at (rw (h.end z) at judged.count), a.1))

  measured : j.refusal ≡ None → Measured bytes j.room (summed ls)
  measured z = rw (all_windows m (length ls) ∙ ap summed (take-length ls)) at (h.measured z)

  pub judged_fits : j.refusal ≡ None → (left : ℕ) → j.room ≡ Some left → length (lines_of (summed ls)) ≤ bytes
  judged_fits z left f = let m = rw f at (measured z) in omega arith

  pub judged_over : j.refusal ≡ None → j.room ≡ None → bytes < length (lines_of (summed ls))
  judged_over z f = rw f at (measured z)

-- What holds between two lines of a scan, and what a scan tells at its end.
use mathlib.Core.Path.{◌≡◌, refl, sym, ap, ◌∙◌}
use mathlib.Core.Bool.{Bool, true, false}
use mathlib.Core.Option.{Option, some}
use mathlib.Core.List.{List, [], ◌∷◌, ◌++◌}
use Prim.Native.Nat.{ℕ, zero, suc, ◌+◌, ◌<◌}
use native.Mathlib.Omega.{arith}
use native.Mathlib.Numerals.{add-one}
use lib.ListN.{length, take}
use Rattle.language.specs.Lists.{nth, Never, inj}
use Rattle.language.proofs.Booleans.{false≢}
use Rattle.fleet.specs.Ranking.{Counted, add, all_within, sum_refusal}
use Rattle.fleet.specs.Entries.{entries}
use Rattle.fleet.specs.LineLists.{in_models}
use Rattle.fleet.proofs.Summing.{add_in_models}
use Rattle.sums.specs.declared.Window.{Window}
use Rattle.std.specs.Prelude.{Some, None}
use Rattle.sums.specs.Window.{in_window, SumsAfter, Open, Takes}
use Rattle.sums.proofs.Tables.{entry_each}
use Rattle.sums.proofs.Windows.{within_chosen}
use Rattle.counted.specs.declared.Scan.{Scan}
use Rattle.counted.specs.Lines.{all_count, summing, summed}
use Rattle.counted.specs.Scanning.{all_models, Fault, past_sum, window_sums, Scanned}
use Rattle.counted.proofs.Windows.{chosen_twice, chosen_pass, window_inv, window_narrower}
use Rattle.counted.proofs.Windows.{summing_append, count_append}

-- One more line.
take_next : {A : Type 0} (l : List A) (i : ℕ) (a : A) → nth l i ≡ some a
    → take (suc i) l ≡ take i l ++ (a ∷ [])
unfolding nth
take_next [] i a e = absurd (Never e)
take_next (x ∷ l) zero a e = ap (λ z. z ∷ []) (inj e)
take_next (x ∷ l) (suc i) a e = ap (λ z. x ∷ z) (take_next l i a e)

pub record Scanning (ls : List (Option Counted)) (low : ℕ) (T₀ H₀ N₀ T H N : List ℕ) (i : ℕ) (w : Window) :
    Type 0 where
  pub count : all_count (take i ls) ≡ true
  pub opened : Open T H N low w
  pub holds : entries T w.count ≡ window_sums low w.end ls i
  pub kept : (length T ≡ length T₀) × ((length H ≡ length H₀) × (length N ≡ length N₀))

module _ (ls : List (Option Counted)) (low : ℕ) (T₀ H₀ N₀ : List ℕ) where
  pub scan_start : {H N : List ℕ} (w : Window) → low < all_models → w.count ≡ 0 → w.end ≡ all_models
      → SumsAfter T₀ H₀ N₀ T₀ H N [] 0 → Scanning ls low T₀ H N T₀ H N 0 w
  unfolding all_count summing in_models entries
  scan_start w l c e a = record {
    count = refl;
    opened = record {
      sums = rw c a.sums;
      wide = omega (arith, l, e);
      most = omega (arith, e);
      all_in = λ j m. absurd (omega (arith, m, c));
    };
    holds = rw c refl;
    kept = (refl, (refl, refl));
  }

  module _ {T H N : List ℕ} {i : ℕ} {w : Window} (s : Scanning ls low T₀ H₀ N₀ T H N i w) where
    next-sums : (c : Counted) → nth ls i ≡ some (some c)
        → summed (take (suc i) ls) ≡ add c (summed (take i ls))
    unfolding summing
    next-sums c e = ap summed (take_next ls i (some c) e) ∙ summing_append [] (take i ls) (some c ∷ [])

    -- A line that was taken into the window.
    pub scan_next : {T' H' N' : List ℕ} (c : Counted) (v : Window) → nth ls i ≡ some (some c)
        → Takes T H N T' H' N' low w c (Some v) → Scanning ls low T₀ H₀ N₀ T' H' N' (i + 1) v
    unfolding all_count
    scan_next {T'} {H'} {N'} c v e t = let a = t.1.1 in rw (add-one i) record {
      count = rw (take_next ls i (some c) e, count_append (take i ls) (some c ∷ []), s.count) refl;
      opened = record {
        sums = a.sums;
        wide = t.0;
        most = omega (arith, t.1.0, s.opened.most);
        all_in = λ j l. window_inv low v.end _
            (entry_each (λ d. in_window low v.end d.model ≡ true) T' v.count
            (rw a.are (chosen_pass (in_window low v.end) _)) j l);
      };
      holds = a.are ∙ rw (s.holds, next-sums c e) (same (summed (take i ls)));
      kept = (a.kept.0 ∙ s.kept.0, (a.kept.1.0 ∙ s.kept.1.0, a.kept.1.1 ∙ s.kept.1.1));
    }
      where
        same : (xs : List Counted)
            → in_models (in_window low v.end) (add c (in_models (in_window low w.end) xs))
            ≡ in_models (in_window low v.end) (add c xs)
        same xs = rw (
          add_in_models (in_window low v.end) c (in_models (in_window low w.end) xs),
          chosen_twice (in_window low w.end) (in_window low v.end)
              (window_narrower low w.end v.end t.1.0) xs,
          add_in_models (in_window low v.end) c xs,
        ) refl

    clean : all_within (window_sums low w.end ls i) ≡ true
    clean = rw s.holds at s.opened.sums.within

    -- All lines before the limit.
    pub scan_end : (number limit : ℕ) (r : Scan) → i ≡ limit → r.place ≡ limit → r.refusal ≡ None
        → r.window ≡ w → Scanned number ls limit low T₀ H₀ N₀ T H N r
    scan_end number limit r l p n q = let z : r.place ≡ i = p ∙ sym l in record {
      reached = record {
        within = omega (arith, p);
        count = rw z s.count;
        end = λ _. p;
        fault = λ k f. absurd (cc);
      };
      wide = rw q s.opened.wide;
      most = rw q s.opened.most;
      clean = rw (z, q) clean;
      opened = λ _. rw q s.opened;
      holds = λ _. rw (z, q) s.holds;
      kept = s.kept;
    }

    -- A line that is refused.
    pub scan_fault : {T' H' N' : List ℕ} (number limit found : ℕ) (r : Scan) → i < limit
        → Fault number ls i found → r.place ≡ i → r.refusal ≡ Some found → r.window ≡ w
        → (length T' ≡ length T) × ((length H' ≡ length H) × (length N' ≡ length N))
        → Scanned number ls limit low T₀ H₀ N₀ T' H' N' r
    scan_fault number limit found r l f p n q k = record {
      reached = record {
        within = omega (arith, p, l);
        count = rw p s.count;
        end = λ z. absurd (cc);
        fault = λ m z. let e : found ≡ m = cc in rw (p, ← e) f;
      };
      wide = rw q s.opened.wide;
      most = rw q s.opened.most;
      clean = rw (p, q) clean;
      opened = λ z. absurd (cc);
      holds = λ z. absurd (cc);
      kept = (k.0 ∙ s.kept.0, (k.1.0 ∙ s.kept.1.0, k.1.1 ∙ s.kept.1.1));
    }

    -- A line that takes a sum of its model past the largest takes one of all sums past it.
    pub past_fault : (number : ℕ) (c : Counted) → nth ls i ≡ some (some c)
        → (in_window low w.end c.model ≡ true) × (all_within (add c (entries T w.count)) ≡ false)
        → Fault number ls i sum_refusal
    past_fault number c e t = past_sum c e (go (all_within (add c (summed (take i ls)))) refl)
      where
        inside : add c (entries T w.count)
            ≡ in_models (in_window low w.end) (add c (summed (take i ls)))
        inside = rw (s.holds, add_in_models (in_window low w.end) c (summed (take i ls)), t.0) refl

        go : (b : Bool) → all_within (add c (summed (take i ls))) ≡ b → b ≡ false
        go true g = false≢ (sym t.1 ∙ rw inside
            (within_chosen (in_window low w.end) (add c (summed (take i ls))) g))
        go false g = refl

-- Lengths that were kept before the scan are kept after it.
pub scanned_from : {number : ℕ} {ls : List (Option Counted)} {limit low : ℕ}
    {T H N T₀ H₀ N₀ T' H' N' : List ℕ} {r : Scan}
    → (length T₀ ≡ length T) × ((length H₀ ≡ length H) × (length N₀ ≡ length N))
    → Scanned number ls limit low T₀ H₀ N₀ T' H' N' r → Scanned number ls limit low T H N T' H' N' r
scanned_from k s = record {
  reached = s.reached;
  wide = s.wide;
  most = s.most;
  clean = s.clean;
  opened = s.opened;
  holds = s.holds;
  kept = (s.kept.0 ∙ k.0, (s.kept.1.0 ∙ k.1.0, s.kept.1.1 ∙ k.1.1));
}

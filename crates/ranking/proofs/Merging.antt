-- Lines that stand in a report, and a batch that is merged into them.
use mathlib.Core.Path.{◌≡◌, refl, sym, ap, ◌∙◌}
use mathlib.Core.Bool.{true}
use mathlib.Core.List.{List, [], ◌∷◌, ◌++◌}
use Prim.Native.Nat.{ℕ, ◌+◌, ◌≤◌, ◌<◌}
use native.Mathlib.Omega.{arith}
use lib.ListN.{length, length-append, get_or, take, drop}
use lib.Seq.{drop-drop, take-append_seam, drop-append-add}
use Rattle.language.specs.WellFormed.{Each, each_nil, each_cons}
use Rattle.language.proofs.Booleans.{and_inv}
use Rattle.fleet.specs.Ranking.{Counted, is_within, all_within, lines_of, ranked}
use Rattle.fleet.specs.Entries.{entries, picked}
use Rattle.fleet.specs.LineLists.{Sorted, sorted_nil, merged}
use Rattle.fleet.proofs.Sorting.{ranked_sorted}
use Rattle.ordering.specs.Places.{HasLine}
use Rattle.reports.specs.Places.{Printable, Merging}
use Rattle.sums.proofs.Tables.{entry_each}
use Rattle.ranking.specs.Judging.{Standing, Ready}
use Rattle.ranking.proofs.Measuring.{lines_ranked}

within_each : (ds : List Counted) → all_within ds ≡ true → Each (λ d. is_within d ≡ true) ds
unfolding all_within
within_each [] e = each_nil
within_each (d ∷ ds) e = let h = and_inv (is_within d) (all_within ds) e in
    each_cons h.0 (within_each ds h.1)

module _ {T order spare : List ℕ} {count : ℕ} (r : Ready T order spare count) (order' : List ℕ)
    (long : length order' ≡ length order)
    (is : picked T (take count order') ≡ ranked (entries T count))
    (places : (i : ℕ) → i < count → get_or order' i 0 < count) where
  pub has : (k : ℕ) → k < count → HasLine T (get_or order' k 0)
  has k l = record {
    long = omega (arith, places k l, r.table);
    within = entry_each (λ d. is_within d ≡ true) T count (within_each (entries T count) r.within) _
        (places k l);
  }

  pub batch_long : length (lines_of (picked T (take count order'))) ≡ length (lines_of (entries T count))
  batch_long = ap (λ (xs : List Counted). length (lines_of xs)) is ∙ lines_ranked (entries T count)

  abbrev pub merging : {report : List ℕ} {have : ℕ} {es : List Counted} → Standing report have es
      → have + length (lines_of (entries T count)) ≤ length report
      → Merging T order' report have count (have + length (lines_of (picked T (take count order'))))
  merging {report} {have} {es} s room = record {
    filled = record { lines = es; within = s.within; text = s.text; printable = s.printable };
    batch = record { long = omega (arith, r.order_long, long); each = has };
    lines_sorted = s.sorted;
    batch_sorted = rw is (ranked_sorted (entries T count));
    place = refl;
    room = omega (arith, room, batch_long);
  }

-- Nothing stands in the first 0 bytes.
pub stands_none : (report : List ℕ) → Standing report 0 []
unfolding lines_of
stands_none report = record { within = omega arith; text = refl; sorted = sorted_nil; printable = each_nil }

-- What was written stands there.
pub standing_written : (report old : List ℕ) (have : ℕ) (es : List Counted)
    → report ≡ lines_of es ++ drop have old
    → have ≡ length (lines_of es) → Sorted es → Each Printable es → Standing report have es
standing_written report old have es q h s p = record {
  within = rw (q, length-append (lines_of es) (drop have old), h) (omega arith);
  text = rw (q, h) (take-append_seam (lines_of es) (drop (length (lines_of es)) old));
  sorted = s;
  printable = p;
}

-- The bytes past those that were written are as they were.
pub past_same : (report old : List ℕ) (have more : ℕ) (es : List Counted)
    → report ≡ lines_of es ++ drop have old
    → have ≡ length (lines_of es) → drop (have + more) report ≡ drop (have + more) old
past_same report old have more es q h =
    rw (q) (ap (λ (n : ℕ). drop (n + more) (lines_of es ++ drop have old)) h
    ∙ (drop-append-add (lines_of es) (drop have old) more ∙ drop-drop more have old))

pub from_none : {r : ℕ} (xs ys : List Counted) → r ≡ 0 + length (lines_of xs) → xs ≡ ys
    → r ≡ length (lines_of ys)
from_none xs ys e q = rw (sym q) (omega (arith, e))

-- Merged into none, a batch is the report.
merged_none : (xs : List Counted) → merged [] xs ≡ xs
unfolding merged
merged_none xs = refl

pub merged_alone : {new : List ℕ} (rest : List ℕ) (xs ys : List Counted)
    → new ≡ lines_of (merged [] (ranked xs)) ++ rest
    → xs ≡ ys → new ≡ lines_of (ranked ys) ++ rest
merged_alone rest xs ys e q =
    rw (sym q) (e ∙ ap (λ (zs : List Counted). lines_of zs ++ rest) (merged_none (ranked xs)))

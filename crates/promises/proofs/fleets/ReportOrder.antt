-- The lines of a report are the sums in order, and one more label spoiled moves no model up. Assumes nothing.
use mathlib.Core.Path.{◌≡◌, refl, sym, ap, ◌∙◌}
use mathlib.Core.Logic.{◌↔◌}
use Prim.Native.Nat.{ℕ, suc, ◌≤◌, ◌<◌}
use native.Mathlib.Omega.{arith}
use borrow.Author.Tests.{eq-eqb}
use mathlib.Core.Bool.{Bool, true, false, cond}
use mathlib.Core.List.{List, [], ◌∷◌, ◌++◌}
use mathlib.Core.Option.{Option}
use lib.Dec.{eqb}
use Rattle.language.specs.Lists.{choice}
use Rattle.language.specs.Results.{accept, bind_checked, bind_checked_inv, accept_injective}
use Rattle.language.specs.WellFormed.{Each, each_nil, each_cons}
use Rattle.language.proofs.Booleans.{false≢}
use Rattle.fleet.specs.Ranking.{Counted, is_before, insert, sums, ranked, lines_of, report_of}
use Rattle.fleet.specs.LineLists.{one_more_spoiled}
use Rattle.fleet.proofs.Order.{before_total, before_asymmetric, before_spoiled}
use Rattle.fleet.specs.LineLists.{Other, Distinct, distinct_nil, distinct_cons}
use Rattle.fleet.proofs.Sorting.{permuted_back, distinct_permuted, ranked_unique, ranked_permuted}
use Rattle.fleet.specs.LineLists.{NotBefore, Sorted, sorted_nil, sorted_cons}
use Rattle.fleet.proofs.Sorting.{permuted_middle, ranked_sorted}
use Rattle.promises.specs.Totals.{InOrder, in_order_nil, in_order_cons, place_of, ReportOf}
use Rattle.promises.proofs.fleets.SumEndings.{sums_accepted}

-- Sums of different models that are sorted are in order, and what is in order is its own ranking.
sorted_in_order : {ds : List Counted} → Sorted ds → Distinct ds → InOrder ds
sorted_in_order sorted_nil distinct_nil = in_order_nil
sorted_in_order (sorted_cons {c} s ss) (distinct_cons n ns) = in_order_cons (go s n) (sorted_in_order ss ns)
  where
    go : {ds : List Counted} → Each (NotBefore c) ds → Each (Other c.model) ds
        → Each (λ (d : Counted). is_before c d ≡ true) ds
    go each_nil each_nil = each_nil
    go (each_cons {a} s ss) (each_cons n ns) = each_cons (before_total a c n s) (go ss ns)

in_order_ranked : {ds : List Counted} → InOrder ds → ranked ds ≡ ds
unfolding ranked insert
in_order_ranked in_order_nil = refl
in_order_ranked (in_order_cons {c} h hs) = ap (insert c) (in_order_ranked hs) ∙ go h
  where
    go : {ds : List Counted} → Each (λ (d : Counted). is_before c d ≡ true) ds → insert c ds ≡ c ∷ ds
    go each_nil = refl
    go (each_cons {a} e es) = rw (before_asymmetric c a e)

-- A report is accepted exactly as the sums in order.
pub report_written : (number : ℕ) (cs : List (Option Counted)) (bytes : List ℕ)
    → (report_of number cs ≡ accept bytes) ↔ ReportOf number cs bytes
unfolding report_of bind_checked
report_written number cs bytes = (
  λ e. bind_checked_inv (sums number cs) (λ ds. accept (lines_of (ranked ds))) e λ ds f g. record {
    sums_of_lines = ds;
    in_report = ranked ds;
    summed = f;
    all_there = ranked_permuted ds;
    in_order = sorted_in_order (ranked_sorted ds) (distinct_permuted (ranked_permuted ds) (apart ds f));
    written = sym (accept_injective g);
  },
  λ r. rw r.summed (ap (λ (es : List Counted). accept (lines_of es))
      (ranked_unique r.all_there (apart r.sums_of_lines r.summed) ∙ in_order_ranked r.in_order)
      ∙ ap accept (sym r.written)),
)
  where
    apart : (ds : List Counted) → sums number cs ≡ accept ds → Distinct ds
    apart ds f = (sums_accepted number cs ds f).sums_of_lines.one_a_model

-- One more label spoiled: the model is inserted no earlier.
pub insert_spoiled : (a : Counted) (ds : List Counted) → a.spoiled < a.printed
    → place_of a.model (insert a ds) ≤ place_of a.model (insert (one_more_spoiled a) ds)
unfolding insert place_of
insert_spoiled a [] h = omega arith
insert_spoiled a (d ∷ ds) h =
    go (is_before d a) refl (is_before d (one_more_spoiled a)) refl (insert_spoiled a ds h)
  where
    m : ℕ
    m = a.model

    a' : Counted
    a' = one_more_spoiled a

    past : (t : Bool) (x y : ℕ) → x ≤ y → cond t 0 (suc x) ≤ cond t 0 (suc y)
    past true x y h = omega arith
    past false x y h = omega arith

    go : (t : Bool) → is_before d a ≡ t → (u : Bool) → is_before d a' ≡ u
        → place_of m (insert a ds) ≤ place_of m (insert a' ds)
        → place_of m (choice t (λ _. d ∷ insert a ds) (λ _. a ∷ d ∷ ds))
        ≤ place_of m (choice u (λ _. d ∷ insert a' ds) (λ _. a' ∷ d ∷ ds))
    go true e true f r = past (eqb d.model m) (place_of m (insert a ds)) (place_of m (insert a' ds)) r
    go true e false f r = false≢ (sym f ∙ before_spoiled d a h e)
    go false e u f r = rw (eq-eqb m m refl) (omega arith)

pub ranked_spoiled : (a : Counted) (xs ys : List Counted) → a.spoiled < a.printed
    → Distinct (xs ++ (a ∷ ys))
    → place_of a.model (ranked (xs ++ (a ∷ ys)))
    ≤ place_of a.model (ranked (xs ++ (one_more_spoiled a ∷ ys)))
unfolding ranked
ranked_spoiled a xs ys h d =
    let k = distinct_permuted (permuted_back (permuted_middle a xs ys)) d in
    rw (
      ← (ranked_unique (permuted_middle a xs ys) k),
      ← (ranked_unique (permuted_middle (one_more_spoiled a) xs ys) (same k)),
    )
    (insert_spoiled a (ranked (xs ++ ys)) h)
  where
    same : Distinct (a ∷ (xs ++ ys)) → Distinct (one_more_spoiled a ∷ (xs ++ ys))
    same (distinct_cons n ns) = distinct_cons n ns

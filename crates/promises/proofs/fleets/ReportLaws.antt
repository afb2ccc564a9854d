-- The report over counted lines depends on their models' totals alone. Assumes nothing.
use mathlib.Core.Path.{◌≡◌, refl, sym, ap, ◌∙◌}
use mathlib.Core.Logic.{◌↔◌, ◌≢◌}
use Prim.Native.Nat.{ℕ, ◌+◌}
use native.Mathlib.Omega.{arith}
use mathlib.Core.Bool.{Bool, true, false, ◌&&◌}
use mathlib.Core.List.{List, [], ◌∷◌, ◌++◌, map, append-nil}
use mathlib.Core.Option.{Option, none, some}
use lib.ListN.{length}
use Rattle.language.specs.Results.{Checked, accept, refuse, bind_checked, accept≢refuse}
use Rattle.language.specs.WellFormed.{Each, each_nil, each_cons}
use Rattle.fleet.specs.Ranking.{Counted, sum_refusal, is_within, all_within, sums_from, sums, ranked}
use Rattle.fleet.specs.Ranking.{lines_of}
use Rattle.fleet.specs.Ranking.{report_of}
use Rattle.fleet.specs.LineLists.{Other, Distinct, distinct_nil, distinct_cons}
use Rattle.fleet.specs.LineLists.{Permuted, permuted_nil, permuted_cons, permuted_swap, permuted_then}
use Rattle.fleet.proofs.Sorting.{permuted_same}
use Rattle.fleet.proofs.Sorting.{permuted_back, each_permuted, distinct_permuted, ranked_unique}
use Rattle.promises.specs.Totals.{Has, has_here, has_later, total, totals, SameTotals}
use Rattle.promises.specs.Totals.{AgreeOnSums, same_bytes, both_past, SumsRefusal, RefusedBy}
use Rattle.promises.specs.Totals.{refused_there, refused_earlier}
use Rattle.promises.proofs.fleets.SumLaws.{added, added_sums, has_some}
use Rattle.promises.proofs.fleets.SumEndings.{sums_past, added_or_past, sums_refused}

-- A line in another order.
pub has_permuted : {m : ℕ} {xs ys : List Counted} → Permuted xs ys → Has m xs → Has m ys
has_permuted (permuted_cons p) (has_here h) = has_here h
has_permuted (permuted_cons p) (has_later h) = has_later (has_permuted p h)
has_permuted permuted_swap (has_here h) = has_later (has_here h)
has_permuted permuted_swap (has_later (has_here h)) = has_here h
has_permuted permuted_swap (has_later (has_later h)) = has_later (has_later h)
has_permuted (permuted_then p q) h = has_permuted q (has_permuted p h)
has_permuted {m = m} permuted_nil h = elim h [ ]

-- The line of a model put first.
pub record First (m : ℕ) (xs : List Counted) : Type 0 where
  pub first : Counted
  pub others : List Counted
  pub of_model : first.model ≡ m
  pub moved : Permuted xs (first ∷ others)

pub put_first : {m : ℕ} {xs : List Counted} → Has m xs → First m xs
put_first (has_here {x} {xs} h) =
    record { first = x; others = xs; of_model = h; moved = permuted_same (x ∷ xs) }
put_first (has_later {x} {xs} h) = let f = put_first h in record {
  first = f.first;
  others = x ∷ f.others;
  of_model = f.of_model;
  moved = permuted_then (permuted_cons f.moved) permuted_swap;
}

pub no_model : {m : ℕ} {xs : List Counted} → Each (Other m) xs → Has m xs → ⊥
no_model (each_cons n ns) (has_here h) = n h
no_model (each_cons n ns) (has_later h) = no_model ns h
no_model {m = m} each_nil x3 = elim x3 [ ]

-- Sums with the same models, each what its model gives, are permutations of one another.
pub same_sums : (of : ℕ → Counted) {ds es : List Counted} → Distinct ds → Distinct es
    → ((m : ℕ) → Has m ds ↔ Has m es)
    → Each (λ (d : Counted). d ≡ of d.model) ds → Each (λ (d : Counted). d ≡ of d.model) es
    → Permuted ds es
same_sums of {es = []} distinct_nil k s p q = permuted_nil
same_sums of {es = e ∷ es} distinct_nil k s p q =
    absurd (has_some e.model ((s e.model).1 (has_here refl)) refl)
same_sums of {es = es} (distinct_cons {d} {ds} h hs) k s (each_cons e r) q =
    let f = put_first ((s d.model).0 (has_here refl)) in
    go f.first f.others f.of_model f.moved (distinct_permuted f.moved k)
    (each_permuted f.moved q)
    (λ k' s' q'. same_sums of hs k' s' r q')
  where
    Same : List Counted → Type 0
    Same = Each (λ (x : Counted). x ≡ of x.model)

    go : (x : Counted) (xs : List Counted) → x.model ≡ d.model → Permuted es (x ∷ xs) → Distinct (x ∷ xs)
        → Same (x ∷ xs)
        → (Distinct xs → ((m : ℕ) → Has m ds ↔ Has m xs) → Same xs → Permuted ds xs)
        → Permuted (d ∷ ds) es
    go x xs o p (distinct_cons n ns) (each_cons f fs) rest =
        let z : x ≡ d = f ∙ ap of o ∙ sym e in
        permuted_then (permuted_cons (rest ns (λ m. (there m, back m)) fs)) (rw z at (permuted_back p))
      where
        past : {m : ℕ} {y : Counted} {ys : List Counted} → Has m (y ∷ ys) → y.model ≢ m → Has m ys
        past (has_here a) b = absurd (b a)
        past (has_later a) b = a

        there : (m : ℕ) → Has m ds → Has m xs
        there m a = past (has_permuted p ((s m).0 (has_later a))) (λ b. no_model h (rw (sym b ∙ o) at a))

        back : (m : ℕ) → Has m xs → Has m ds
        back m a = past ((s m).1 (has_permuted (permuted_back p) (has_later a)))
            (λ b. no_model n (rw (sym b ∙ sym o) at a))

within_permuted : {ds es : List Counted} → Permuted ds es → all_within ds ≡ all_within es
unfolding all_within
within_permuted permuted_nil = refl
within_permuted (permuted_cons {a} p) = ap (λ (t : Bool). is_within a && t) (within_permuted p)
within_permuted (permuted_swap {a} {b} {xs}) = swap (is_within a) (is_within b) (all_within xs)
  where
    swap : (t u v : Bool) → (t && (u && v)) ≡ (u && (t && v))
    swap true u v = refl
    swap false true v = refl
    swap false false v = refl
within_permuted (permuted_then p q) = within_permuted p ∙ within_permuted q

-- The report over counted lines: that of their sums, or 17.
report_accepted : (number : ℕ) (xs : List Counted) → all_within (added [] xs) ≡ true
    → report_of number (map some xs) ≡ accept (lines_of (ranked (added [] xs)))
unfolding report_of bind_checked sums_from
report_accepted number xs w =
    let e = rw (append-nil (map some xs)) at (sums_past number 1 [] xs [] w) in rw e

report_past : (number : ℕ) (xs : List Counted) → all_within (added [] xs) ≡ false
    → (k : ℕ) × (report_of number (map some xs) ≡ refuse sum_refusal k)
unfolding report_of bind_checked all_within
report_past number xs w = let r = added_or_past number 1 [] xs [] refl w in
    (r.0, let e = rw (append-nil (map some xs)) at r.2 in rw e)

-- Lines with the same totals have the same report, or both take a sum past the largest.
pub same_reports : {xs ys : List Counted} → SameTotals xs ys → (n k : ℕ)
    → AgreeOnSums (report_of n (map some xs)) (report_of k (map some ys))
same_reports {xs} {ys} t n k =
    let a = added_sums xs in let b = added_sums ys in
    let p = same_sums (totals xs) a.one_a_model b.one_a_model
    (λ m. (
      λ h. (b.same_models m).0 ((t.same_models m).0 ((a.same_models m).1 h)),
      λ h. (a.same_models m).0 ((t.same_models m).1 ((b.same_models m).1 h)),
    )) a.exact
    (other b.exact) in
    go p a.one_a_model (all_within (added [] xs)) refl
  where
    other : {ds : List Counted} → Each (λ (d : Counted). d ≡ totals ys d.model) ds
        → Each (λ (d : Counted). d ≡ totals xs d.model) ds
    other each_nil = each_nil
    other (each_cons {a = d} e r) = each_cons (e ∙ sym (t.same_totals d.model)) (other r)

    go : Permuted (added [] xs) (added [] ys) → Distinct (added [] xs)
        → (w : Bool) → all_within (added [] xs) ≡ w
        → AgreeOnSums (report_of n (map some xs)) (report_of k (map some ys))
    go p d true w = rw (
      report_accepted n xs w,
      report_accepted k ys (sym (within_permuted p) ∙ w),
      ranked_unique p d,
    )
        same_bytes
    go p d false w = let x = report_past n xs w in let y = report_past k ys (sym (within_permuted p) ∙ w) in
        rw (x.1, y.1) both_past

-- Lines in another order have the same totals.
pub total_permuted : (of : Counted → ℕ) (m : ℕ) {xs ys : List Counted} → Permuted xs ys
    → total of m xs ≡ total of m ys
unfolding total
total_permuted of m permuted_nil = refl
total_permuted of m (permuted_cons p) = omega (arith, total_permuted of m p)
total_permuted of m permuted_swap = omega arith
total_permuted of m (permuted_then p q) = total_permuted of m p ∙ total_permuted of m q

pub permuted_totals : {xs ys : List Counted} → Permuted xs ys → SameTotals xs ys
permuted_totals {xs} {ys} p = record {
  same_models = λ m. (has_permuted p, has_permuted (permuted_back p));
  same_totals = λ m. rw (
    total_permuted (λ x. x.printed) m p,
    total_permuted (λ x. x.spoiled) m p,
    total_permuted (λ x. x.cents) m p,
  );
}

-- A report is refused exactly as its sums are.
pub report_refused : (number : ℕ) (cs : List (Option Counted)) (n k : ℕ)
    → (report_of number cs ≡ refuse n k) ↔ SumsRefusal number cs n k
unfolding report_of bind_checked
report_refused number cs n k =
    (λ e. (sums_refused number cs n k).0 (go (sums number cs) e), λ r. rw ((sums_refused number cs n k).1 r))
  where
    go : (r : Checked (List Counted)) → bind_checked r (λ ds. accept (lines_of (ranked ds))) ≡ refuse n k
        → r ≡ refuse n k
    go (accept ds) e = absurd (accept≢refuse n k (sym e))
    go (refuse m l) e = cc

-- Lines of which one is not counted are refused there or earlier.
pub report_not_counted : (number : ℕ) (xs : List Counted) (rest : List (Option Counted))
    → RefusedBy number (1 + length xs) (report_of number (map some xs ++ (none ∷ rest)))
unfolding report_of bind_checked sums_from all_within
report_not_counted number xs rest = go (all_within (added [] xs)) refl
  where
    go : (t : Bool) → all_within (added [] xs) ≡ t
        → RefusedBy number (1 + length xs) (report_of number (map some xs ++ (none ∷ rest)))
    go true w = let l : length xs + 1 ≡ 1 + length xs = omega arith in
        rw (sums_past number 1 [] xs (none ∷ rest) w, l) refused_there
    go false w = let r = added_or_past number 1 [] xs (none ∷ rest) refl w in
        rw r.2 (refused_earlier {k = r.0} (omega (arith, r.1)))

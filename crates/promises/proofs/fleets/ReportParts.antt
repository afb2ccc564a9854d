-- Lines cut into parts: ranking the parts' reports together gives the report of all. Assumes nothing.
use mathlib.Core.Path.{◌≡◌, refl, ap, ◌∙◌}
use mathlib.Core.Logic.{◌⊎◌, inl, inr}
use Prim.Native.Nat.{ℕ, ◌+◌}
use native.Mathlib.Omega.{arith}
use mathlib.Core.List.{List, [], ◌∷◌, ◌++◌, map, flatten}
use mathlib.Core.Option.{some}
use Rattle.language.specs.Lists.{All2, a_nil, a_cons}
use Rattle.language.specs.Results.{accept}
use Rattle.fleet.specs.Ranking.{Counted, plus, sums, ranked, report_of}
use Rattle.fleet.specs.LineLists.{permuted_nil}
use Rattle.fleet.proofs.Sorting.{ranked_permuted}
use Rattle.promises.specs.Totals.{Has, has_here, has_later, total, SameTotals, AgreeOnSums}
use Rattle.promises.proofs.fleets.SumLaws.{added, added_sums, total_added}
use Rattle.promises.proofs.fleets.SumEndings.{sums_are}
use Rattle.promises.proofs.fleets.ReportLaws.{same_reports, permuted_totals}

-- Totals of two lists of lines together.
pub has_append : {m : ℕ} {xs ys us vs : List Counted} → (Has m xs → Has m ys) → (Has m us → Has m vs)
    → Has m (xs ++ us) → Has m (ys ++ vs)
has_append {m} {xs} {ys} {us} {vs} f g h = elim (split xs h) [ inl k ↦ left (f k) | inr k ↦ right ys (g k) ]
  where
    split : (xs : List Counted) → Has m (xs ++ us) → Has m xs ⊎ Has m us
    split [] h = inr h
    split (x ∷ xs) (has_here h) = inl (has_here h)
    split (x ∷ xs) (has_later h) = elim (split xs h) [ inl k ↦ inl (has_later k) | inr k ↦ inr k ]

    left : {ys : List Counted} → Has m ys → Has m (ys ++ vs)
    left (has_here h) = has_here h
    left (has_later h) = has_later (left h)

    right : (ys : List Counted) → Has m vs → Has m (ys ++ vs)
    right [] h = h
    right (y ∷ ys) h = has_later (right ys h)

pub total_append : (of : Counted → ℕ) (m : ℕ) (xs ys : List Counted)
    → total of m (xs ++ ys) ≡ total of m xs + total of m ys
unfolding total
total_append of m [] ys = omega arith
total_append of m (x ∷ xs) ys = omega (arith, total_append of m xs ys)

append_totals : (xs ys us vs : List Counted) → SameTotals xs ys → SameTotals us vs
    → SameTotals (xs ++ us) (ys ++ vs)
append_totals xs ys us vs s t = record {
  same_models = λ m. (
    has_append (s.same_models m).0 (t.same_models m).0,
    has_append (s.same_models m).1 (t.same_models m).1,
  );
  same_totals = λ m. rw (
    go (λ x. x.printed) m (ap (λ (c : Counted). c.printed) (s.same_totals m))
        (ap (λ (c : Counted). c.printed) (t.same_totals m)),
    go (λ x. x.spoiled) m (ap (λ (c : Counted). c.spoiled) (s.same_totals m))
        (ap (λ (c : Counted). c.spoiled) (t.same_totals m)),
    go (λ x. x.cents) m (ap (λ (c : Counted). c.cents) (s.same_totals m))
        (ap (λ (c : Counted). c.cents) (t.same_totals m)),
  );
}
  where
    go : (of : Counted → ℕ) (m : ℕ) → total of m xs ≡ total of m ys → total of m us ≡ total of m vs
        → total of m (xs ++ us) ≡ total of m (ys ++ vs)
    go of m e f = omega (arith, e, f, total_append of m xs us, total_append of m ys vs)

-- The sums of lines, ranked, have the lines' totals.
sums_totals : (xs : List Counted) → SameTotals xs (added [] xs)
unfolding total
sums_totals xs = record {
  same_models = (added_sums xs).same_models;
  same_totals = λ m. rw (
    go (λ x. x.printed) (λ d c. refl) m,
    go (λ x. x.spoiled) (λ d c. refl) m,
    go (λ x. x.cents) (λ d c. refl) m,
  );
}
  where
    go : (of : Counted → ℕ) → ((d c : Counted) → of (plus d c) ≡ of d + of c) → (m : ℕ)
        → total of m (added [] xs) ≡ total of m xs
    go of h m = omega (arith, total_added of h m [] xs)

then_totals : {xs ys zs : List Counted} → SameTotals xs ys → SameTotals ys zs → SameTotals xs zs
then_totals s t = record {
  same_models = λ m. (
    λ h. (t.same_models m).0 ((s.same_models m).0 h),
    λ h. (s.same_models m).1 ((t.same_models m).1 h),
  );
  same_totals = λ m. s.same_totals m ∙ t.same_totals m;
}

parts_totals : (number : ℕ) {parts sums-of-parts : List (List Counted)}
    → All2 (λ (xs ds : List Counted). sums number (map some xs) ≡ accept ds) parts sums-of-parts
    → SameTotals (flatten parts) (flatten (map ranked sums-of-parts))
unfolding flatten
parts_totals number a_nil = permuted_totals permuted_nil
parts_totals number (a_cons {a = xs} {b = ds} {xs = parts} {ys = dss} e es) =
    append_totals xs (ranked ds) (flatten parts) (flatten (map ranked dss))
    (then_totals (rw (← (sums_are number xs ds e)) at (sums_totals xs))
    (permuted_totals (ranked_permuted ds)))
    (parts_totals number es)

-- The parts' sums, each ranked, have together the report of all lines; or both are past the largest sum.
pub parts_report : (number : ℕ) {parts sums-of-parts : List (List Counted)}
    → All2 (λ (xs ds : List Counted). sums number (map some xs) ≡ accept ds) parts sums-of-parts
    → (n k : ℕ) → AgreeOnSums (report_of n (map some (flatten parts)))
    (report_of k (map some (flatten (map ranked sums-of-parts))))
parts_report number h n k = same_reports (parts_totals number h) n k

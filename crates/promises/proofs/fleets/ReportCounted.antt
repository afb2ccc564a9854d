-- The lines of reports are counted lines: ranked together as numbers they give the report of all. Assumes nothing.
use mathlib.Core.Path.{◌≡◌, sym, subst}
use Prim.Native.Nat.{ℕ, ◌+◌, ◌≤◌}
use native.Mathlib.Omega.{arith}
use mathlib.Core.Bool.{Bool, true, false, cond}
use mathlib.Core.List.{List, [], map, flatten}
use mathlib.Core.Option.{some}
use lib.Dec.{eqb}
use Rattle.language.specs.Limits.{line_refusal}
use Rattle.language.specs.Lists.{All2, a_nil, a_cons}
use Rattle.language.specs.Results.{accept}
use Rattle.language.specs.WellFormed.{Each, each_nil, each_cons}
use Rattle.theory.proofs.lookups.LookupLaws.{each_append}
use Rattle.fleet.specs.Ranking.{Counted, sums, ranked, report_of}
use Rattle.fleet.specs.Fleet.{models_report}
use Rattle.fleet.proofs.Sorting.{each_permuted, ranked_permuted}
use Rattle.promises.specs.Totals.{Possible, line_numbers, total, totals, AgreeOnSums}
use Rattle.promises.proofs.fleets.SumLaws.{added, added_sums}
use Rattle.promises.proofs.fleets.SumEndings.{sums_are}
use Rattle.promises.proofs.fleets.ReportParts.{parts_report}
use Rattle.promises.proofs.fleets.FleetLines.{models_report_of}

-- Totals and sums have no more labels spoiled than printed where lines have not.
total_possible : {xs : List Counted} → Each Possible xs → (m : ℕ) → Possible (totals xs m)
unfolding total
total_possible each_nil m = omega arith
total_possible (each_cons {a} {l} h hs) m = go (eqb a.model m) (total_possible hs m)
  where
    go : (t : Bool) → Possible (totals l m)
        → cond t a.spoiled 0 + total (λ x. x.spoiled) m l
        ≤ cond t a.printed 0 + total (λ x. x.printed) m l
    go true r = omega arith
    go false r = omega arith

sums_possible : {xs : List Counted} → Each Possible xs → Each Possible (added [] xs)
sums_possible {xs} h = go (added_sums xs).exact
  where
    go : {ds : List Counted} → Each (λ (d : Counted). d ≡ totals xs d.model) ds → Each Possible ds
    go each_nil = each_nil
    go (each_cons {a} e es) = each_cons (subst Possible (sym e) (total_possible h a.model)) (go es)

module _ (number : ℕ) where
  parts_possible : {parts sums-of-parts : List (List Counted)} → Each (Each Possible) parts
      → All2 (λ (xs ds : List Counted). sums number (map some xs) ≡ accept ds) parts sums-of-parts
      → Each Possible (flatten (map ranked sums-of-parts))
  unfolding flatten
  parts_possible each_nil a_nil = each_nil
  parts_possible (each_cons h hs) (a_cons {a = xs} {b = ds} e es) = each_append
      (each_permuted (ranked_permuted ds) (rw (← (sums_are number xs ds e)) at (sums_possible h)))
      (parts_possible hs es)

pub parts_models : (number : ℕ) {parts sums-of-parts : List (List Counted)} → Each (Each Possible) parts
    → All2 (λ (xs ds : List Counted). sums number (map some xs) ≡ accept ds) parts sums-of-parts
    → AgreeOnSums (report_of number (map some (flatten parts)))
    (models_report (line_numbers (flatten (map ranked sums-of-parts))))
parts_models number {sums-of-parts} h s =
    rw (models_report_of (flatten (map ranked sums-of-parts)) (parts_possible number h s))
    (parts_report number s number line_refusal)

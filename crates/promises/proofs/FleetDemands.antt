-- The demands on the report over a fleet (document 02, §1), over runs, programs, stores and counted lines as numbers:
-- the definitions that the services' contracts cite. The words are in Totals; the proofs are in the files cited.
-- A line is counted (some) or it is not (none): a run that is refused for its class, or a counted line with more labels
-- spoiled than printed, which is refused with the number given.
use mathlib.Core.Path.{◌≡◌, refl}
use mathlib.Core.Logic.{◌↔◌, ◌≢◌, ◌⊎◌, inl, inr}
use Prim.Native.Nat.{ℕ, ◌+◌, ◌%◌, ◌≤◌, ◌<◌}
use mathlib.Core.Bool.{Bool, true, false}
use mathlib.Core.List.{List, ◌∷◌, ◌++◌, map, flatten}
use mathlib.Core.Option.{Option, none, some}
use lib.ListN.{length}
use Rattle.language.specs.Filling.{buffer}
use Rattle.language.specs.Lists.{All2}
use Rattle.language.specs.Results.{accept, refuse}
use Rattle.language.specs.WellFormed.{Each}
use Rattle.fleet.specs.Ranking.{Counted, is_before, sums, ranked, report_of, report_answer}
use Rattle.fleet.specs.Fleet.{Run, line_of_run, runs_of, lines_of_runs, fleet_report, models_report}
use Rattle.fleet.specs.LineLists.{one_more_spoiled}
use Rattle.fleet.proofs.Order.{before_asymmetric, before_transitive, before_total}
use Rattle.fleet.proofs.Order.{before_spoiled}
use Rattle.fleet.specs.LineLists.{Distinct}
use Rattle.fleet.specs.LineLists.{Permuted}
use Rattle.promises.specs.Totals.{Possible, line_numbers, total, SumsOfLines, place_of, ReportOf}
use Rattle.promises.specs.Totals.{AgreeOnSums, SumsRefusal, RefusedBy, FleetRefusal, ModelsRefusal}
use Rattle.promises.specs.Totals.{LineOfRun, ListedReport}
use Rattle.promises.proofs.fleets.SumEndings.{sums_accepted}
use Rattle.promises.proofs.fleets.ReportLaws.{same_reports, permuted_totals, report_refused}
use Rattle.promises.proofs.fleets.ReportLaws.{report_not_counted}
use Rattle.promises.proofs.fleets.ReportOrder.{report_written, ranked_spoiled}
use Rattle.promises.proofs.fleets.ReportSpoiled.{report_spoiled}
use Rattle.promises.proofs.fleets.ReportCounted.{parts_models}
use Rattle.promises.proofs.fleets.FleetLines.{line_if_run, fleet_is_models}
use Rattle.promises.proofs.fleets.FleetAnswers.{fleet_refused, models_refused, report_listed}

-- The order is total: of two lines with different models one is before the other, never both, and what is before one
-- that is before a third is before the third.
pub order_total : (a b : Counted) → a.model ≢ b.model → (is_before a b ≡ true) ⊎ (is_before b a ≡ true)
order_total a b n = go (is_before a b) refl
  where
    go : (t : Bool) → is_before a b ≡ t → (t ≡ true) ⊎ (is_before b a ≡ true)
    go true e = inl refl
    go false e = inr (before_total a b n e)

pub order_one_way : (a b : Counted) → is_before a b ≡ true → is_before b a ≡ false
order_one_way = before_asymmetric

pub order_transitive : (a b c : Counted) → is_before a b ≡ true → is_before b c ≡ true → is_before a c ≡ true
order_transitive = before_transitive

-- Sums are over all lines. Where there are sums, all lines are counted and no model's totals are past 4,000,000,000; each
-- model with a line has exactly one of the sums, and that is its totals over all lines.
pub sums_over_all : (number : ℕ) (cs : List (Option Counted)) (ds : List Counted) → sums number cs ≡ accept ds
    → SumsOfLines cs ds
sums_over_all = sums_accepted

-- The report has a line for each of the sums and no other, each before all that come after it; no other bytes are it.
pub report_in_order : (number : ℕ) (cs : List (Option Counted)) (bytes : List ℕ)
    → (report_of number cs ≡ accept bytes) ↔ ReportOf number cs bytes
report_in_order = report_written

-- Refused with 17 exactly at the first line that takes one of its model's totals past 4,000,000,000, and with the number
-- given exactly at the first line that is not counted, whichever comes first.
pub report_refusals : (number : ℕ) (cs : List (Option Counted)) (n k : ℕ)
    → (report_of number cs ≡ refuse n k) ↔ SumsRefusal number cs n k
report_refusals = report_refused

-- The line of a run. A run is counted exactly if its rows do not run past the programs and it is counted from its store
-- (CountDemands says when and what, and its store does not run past the stores then); else it is 18.
pub line_of_a_run : (r : Run) (programs stores : List ℕ) (c : Counted)
    → (line_of_run r programs stores ≡ some c) ↔ LineOfRun r programs stores c
line_of_a_run = line_if_run

-- The report over a fleet is refused with 1 on no line exactly if the numbers are not whole runs; else with 17 or 18 at
-- the place of a run as its lines are.
pub fleet_refusals : (runs programs stores : List ℕ) (n k : ℕ)
    → (fleet_report runs programs stores ≡ refuse n k) ↔ FleetRefusal runs programs stores n k
fleet_refusals = fleet_refused

-- The report over counted lines is refused with 1 on no line exactly if the numbers are not whole lines; else with 17
-- or 1 at the place of a line.
pub models_refusals : (counts : List ℕ) (n k : ℕ)
    → (models_report counts ≡ refuse n k) ↔ ModelsRefusal counts n k
models_refusals = models_refused

-- The services. Whatever the numbers, and whatever is lent for the bytes, the service answers how many bytes it wrote
-- and leaves what was there past them; or it leaves all that was lent unchanged and refuses as listed, with 13 on no
-- line where the report does not fit.
pub fleet_answers : (runs programs stores old : List ℕ)
    → ListedReport (FleetRefusal runs programs stores) (fleet_report runs programs stores) old
    (report_answer (fleet_report runs programs stores) (length old))
    (buffer (fleet_report runs programs stores) old)
fleet_answers runs programs stores old =
    report_listed (fleet_report runs programs stores) (fleet_refused runs programs stores) old

pub models_answers : (counts old : List ℕ) → ListedReport (ModelsRefusal counts) (models_report counts) old
    (report_answer (models_report counts) (length old)) (buffer (models_report counts) old)
models_answers counts old = report_listed (models_report counts) (models_refused counts) old

-- One more label spoiled never moves a model up. What is before a line with a good label is before it with one more
-- spoiled;
pub spoiled_order : (e a : Counted) → a.spoiled < a.printed → is_before e a ≡ true
    → is_before e (one_more_spoiled a) ≡ true
spoiled_order = before_spoiled

-- among sums with different models its model's place in the ranking is no smaller;
pub spoiled_ranking : (a : Counted) (xs ys : List Counted) → a.spoiled < a.printed
    → Distinct (xs ++ (a ∷ ys))
    → place_of a.model (ranked (xs ++ (a ∷ ys)))
    ≤ place_of a.model (ranked (xs ++ (one_more_spoiled a ∷ ys)))
spoiled_ranking = ranked_spoiled

-- and over all lines, where the model of one of them has a good label, its place in the report is no smaller with one
-- more label spoiled on that line.
pub spoiled_report : (us : List Counted) (c : Counted) (vs : List Counted)
    → total (λ x. x.spoiled) c.model (us ++ (c ∷ vs))
    < total (λ x. x.printed) c.model (us ++ (c ∷ vs))
    → (n k : ℕ) (ds es : List Counted) → sums n (map some (us ++ (c ∷ vs))) ≡ accept ds
    → sums k (map some (us ++ (one_more_spoiled c ∷ vs))) ≡ accept es
    → place_of c.model (ranked ds) ≤ place_of c.model (ranked es)
spoiled_report = report_spoiled

-- Where no run is refused for its class, the report over a fleet is that over the counts of its runs, refusals with
-- 17 included.
pub fleet_by_counts : (runs programs stores : List ℕ) (xs : List Counted) → length runs % 6 ≡ 0
    → lines_of_runs (runs_of runs) programs stores ≡ map some xs
    → fleet_report runs programs stores ≡ models_report (line_numbers xs)
fleet_by_counts = fleet_is_models

-- Lines in any order have the same report, or are refused with 17 in each.
pub any_order : (xs ys : List Counted) → Permuted xs ys → (n k : ℕ)
    → AgreeOnSums (report_of n (map some xs)) (report_of k (map some ys))
any_order xs ys p = same_reports (permuted_totals p)

-- The lines of reports are counted lines. Where lines are cut into parts, each with a report, the report over the
-- lines of the parts' reports is that over all lines, or both are refused with 17.
pub any_parts : (number : ℕ) (parts sums-of-parts : List (List Counted)) → Each (Each Possible) parts
    → All2 (λ (xs ds : List Counted). sums number (map some xs) ≡ accept ds) parts sums-of-parts
    → AgreeOnSums (report_of number (map some (flatten parts)))
    (models_report (line_numbers (flatten (map ranked sums-of-parts))))
any_parts number parts sums-of-parts = parts_models number

-- Where a line is not counted the whole is refused: with the number given at the place of the first such line, or
-- with 17 at an earlier one.
pub one_not_counted : (number : ℕ) (xs : List Counted) (rest : List (Option Counted))
    → RefusedBy number (1 + length xs) (report_of number (map some xs ++ (none ∷ rest)))
one_not_counted = report_not_counted

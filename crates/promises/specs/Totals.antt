-- What is summed over counted lines: a model's totals, the sums of lines by model, and when lists of lines have the same
-- ones. These are the words in which the demands on the report over a fleet are stated.
use Rattle.std.specs.Prelude.{Result, Ok, Err}
use Rattle.fleet.specs.Ranking.{fault}
use Rattle.fleet.specs.declared.Fault.{Fault}
use Rattle.std.specs.Prelude.{◌≡◌, ◌↔◌, ◌≢◌, ℕ, suc, ◌+◌, ◌*◌, ◌%◌, ◌≤◌, ◌<◌, true, cond, List, [], ◌∷◌, ◌++◌, map, eqb, length, take, drop}
use Rattle.std.proofs.Math.Option.{Option, none, some}
use Rattle.language.specs.Limits.{numbers_a_row, line_refusal, room_refusal, no_line}
use Rattle.language.specs.Results.{Checked, accept, refuse}
use Rattle.language.specs.WellFormed.{Each}
use Rattle.fleet.specs.Ranking.{Counted, sum_refusal, is_before, sums, lines_of}
use Rattle.fleet.specs.Counts.{Counts, class_refusal, run_counts}
use Rattle.fleet.specs.Fleet.{Run, numbers_a_run, numbers_a_line, runs_of, lines_of_runs, counted_lines}
use Rattle.fleet.specs.LineLists.{Distinct}
use Rattle.fleet.specs.LineLists.{Permuted}

-- One of the lines is of model m.
pub data Has (m : ℕ) : List Counted → Type 0 where
  has_here : {x : Counted} {xs : List Counted} → x.model ≡ m → Has m (x ∷ xs)
  has_later : {x : Counted} {xs : List Counted} → Has m xs → Has m (x ∷ xs)

-- No more labels are spoiled than printed.
abbrev pub Possible : Counted → Type 0
Possible c = c.spoiled ≤ c.printed

-- Counted lines as numbers, four a line: model, labels printed, labels spoiled, cents.
unfoldable pub line_numbers : List Counted → List ℕ
line_numbers [] = []
line_numbers (x ∷ xs) = x.model ∷ x.printed ∷ x.spoiled ∷ x.cents ∷ line_numbers xs

-- What the lines of model m have together: labels printed, labels spoiled or cents.
unfoldable pub total : (Counted → ℕ) → ℕ → List Counted → ℕ
total of m [] = 0
total of m (x ∷ xs) = cond (eqb x.model m) (of x) 0 + total of m xs

-- A model's three totals.
abbrev pub totals : List Counted → ℕ → Counted
totals xs m = record {
  model = m;
  printed = total (λ x. x.printed) m xs;
  spoiled = total (λ x. x.spoiled) m xs;
  cents = total (λ x. x.cents) m xs;
}

-- ds are the sums of the lines xs: one for each model with a line, and each its model's totals.
pub record SumsOf (xs ds : List Counted) : Type 0 where
  pub one_a_model : Distinct ds
  pub same_models : (m : ℕ) → Has m xs ↔ Has m ds
  pub exact : Each (λ (d : Counted). d ≡ totals xs d.model) ds

-- Two lists of lines have the same models with the same totals.
pub record SameTotals (xs ys : List Counted) : Type 0 where
  pub same_models : (m : ℕ) → Has m xs ↔ Has m ys
  pub same_totals : (m : ℕ) → totals xs m ≡ totals ys m

-- The largest sum. The number is written out here, so that the demands do not follow the definition if that has
-- another one.
abbrev pub largest_sum : ℕ
largest_sum = 4000000000

-- None of a model's totals is past it.
pub record Within (c : Counted) : Type 0 where
  pub few_printed : c.printed ≤ largest_sum
  pub few_spoiled : c.spoiled ≤ largest_sum
  pub few_cents : c.cents ≤ largest_sum

-- None of any model's totals is past it.
abbrev pub NonePast : List Counted → Type 0
NonePast xs = (m : ℕ) → Within (totals xs m)

-- ds are the sums of lines that are all counted and take no model's totals past 4,000,000,000.
pub record SumsOfLines (cs : List (Option Counted)) (ds : List Counted) : Type 0 where
  pub lines : List Counted
  pub all_counted : cs ≡ map some lines
  pub none_past : NonePast lines
  pub sums_of_lines : SumsOf lines ds

-- Each is before all that stand after it.
pub data InOrder : List Counted → Type 0 where
  in_order_nil : InOrder []
  in_order_cons : {c : Counted} {cs : List Counted} → Each (λ (d : Counted). is_before c d ≡ true) cs
      → InOrder cs → InOrder (c ∷ cs)

-- How many stand before the first of model m: its place in a report, from 0.
unfoldable pub place_of : ℕ → List Counted → ℕ
place_of m [] = 0
place_of m (d ∷ ds) = cond (eqb d.model m) 0 (suc (place_of m ds))

-- Bytes are the report of lines: the lines have sums, and the bytes are those sums written a line each, in order.
pub record ReportOf (number : ℕ) (cs : List (Option Counted)) (bytes : List ℕ) : Type 0 where
  pub sums_of_lines : List Counted
  pub in_report : List Counted
  pub summed : sums number cs ≡ accept sums_of_lines
  pub all_there : Permuted sums_of_lines in_report
  pub in_order : InOrder in_report
  pub written : bytes ≡ lines_of in_report

-- Two reports are the same bytes, or both are refused with 17, each on a line of its own.
pub data AgreeOnSums : Checked (List ℕ) → Checked (List ℕ) → Type 0 where
  same_bytes : {bytes : List ℕ} → AgreeOnSums (accept bytes) (accept bytes)
  both_past : {k l : ℕ} → AgreeOnSums (refuse sum_refusal k) (refuse sum_refusal l)

-- Why sums are refused: a line takes one of its model's totals past 4,000,000,000 where those before it are counted and
-- take none past, or it is not counted and those before it are and take none past. Places count from 1.
pub data SumsRefusal (number : ℕ) (cs : List (Option Counted)) : ℕ → ℕ → Type 0 where
  past_largest : (xs : List Counted) (c : Counted) (rest : List (Option Counted))
      → cs ≡ map some xs ++ (some c ∷ rest) → NonePast xs
      → ¬ Within (totals (xs ++ (c ∷ [])) c.model)
      → SumsRefusal number cs sum_refusal (1 + length xs)
  not_counted : (xs : List Counted) (rest : List (Option Counted))
      → cs ≡ map some xs ++ (none ∷ rest) → NonePast xs
      → SumsRefusal number cs number (1 + length xs)

-- Lines of which one, at a place, is not counted are refused: there with the number given, or earlier with 17.
pub data RefusedBy (number place : ℕ) : Checked (List ℕ) → Type 0 where
  refused_there : RefusedBy number place (refuse number place)
  refused_earlier : {k : ℕ} → k < place → RefusedBy number place (refuse sum_refusal k)

-- A list of numbers is refused with 1 on no line where it is not a multiple of its width long; else as its lines are.
pub data ListRefusal (left_over : ℕ) (Refusal : ℕ → ℕ → Type 0) : ℕ → ℕ → Type 0 where
  not_whole : left_over ≢ 0 → ListRefusal left_over Refusal line_refusal no_line
  by_lines : {n k : ℕ} → left_over ≡ 0 → Refusal n k → ListRefusal left_over Refusal n k

-- The line of a run whose rows and objects begin these slices: its rows do not run past the programs, it is counted from
-- its store, and the line has its model, its counts and its cents.
pub record LineOfRun (r : Run) (programs stores : List ℕ) (c : Counted) : Type 0 where
  pub rows_held : numbers_a_row * r.rows ≤ length programs
  pub counts : Counts
  pub counted : run_counts (take (numbers_a_row * r.rows) programs) stores r.objects r.printed
      r.spoiled
      ≡ some counts
  pub is : c
      ≡ record { model = r.model; printed = counts.printed; spoiled = counts.spoiled; cents = r.cents }

-- The report over a fleet: 1 on no line; then 17 or 18 at the place of a run.
abbrev pub FleetRefusal : List ℕ → List ℕ → List ℕ → ℕ → ℕ → Type 0
FleetRefusal runs programs stores = ListRefusal (length runs % numbers_a_run)
    (SumsRefusal class_refusal (lines_of_runs (runs_of runs) programs stores))

-- The report over counted lines: 1 on no line; then 17, or 1 where more labels are spoiled than printed, at the place of
-- a line.
abbrev pub ModelsRefusal : List ℕ → ℕ → ℕ → Type 0
ModelsRefusal counts =
    ListRefusal (length counts % numbers_a_line) (SumsRefusal line_refusal (counted_lines counts))

-- A service that writes a report into lent bytes, and the bytes afterwards: the report and then what was there past it;
-- 13 on no line where it does not fit, or a refusal that is listed for it, and then the bytes are unchanged.
pub data ListedReport (Refusal : ℕ → ℕ → Type 0) (made : Checked (List ℕ)) (old : List ℕ) :
    Result ℕ Fault → List ℕ → Type 0 where
  is_reported : {bytes : List ℕ} → made ≡ accept bytes → length bytes ≤ length old
      → ListedReport Refusal made old (Ok (length bytes)) (bytes ++ drop (length bytes) old)
  has_no_room : {bytes : List ℕ} → made ≡ accept bytes → length old < length bytes
      → ListedReport Refusal made old (Err (fault room_refusal no_line)) old
  is_not_made : {n k : ℕ} → made ≡ refuse n k → Refusal n k → ListedReport Refusal made old (Err (fault n k)) old

-- The report over many ended runs, and that over counted lines (document 02, §1: "Each run arrives as six u32 numbers:
-- model, count of rows, count of objects made, two class numbers (printed and spoiled) and cost in cents; a second slice
-- holds the programs one after another, a third the stores, objects made only").
use Rattle.std.specs.Prelude.{List, [], ◌∷◌, ℕ, zero, suc, ◌*◌, ◌/◌, ◌%◌, eqb, leb, length, get_or, take, drop}
use Rattle.std.proofs.Math.Option.{Option, none, some}
use Rattle.language.specs.Limits.{numbers_a_row, object_width, line_refusal, no_line}
use Rattle.language.specs.Lists.{choice, map_option}
use Rattle.language.specs.Results.{Checked, require}
use Rattle.fleet.specs.Counts.{Counts, class_refusal, run_counts}
use Rattle.fleet.specs.Ranking.{Counted, report_of}

abbrev pub numbers_a_run : ℕ
numbers_a_run = 6

abbrev pub numbers_a_line : ℕ
numbers_a_line = 4

pub record Run : Type 0 where
  pub model : ℕ
  pub rows : ℕ
  pub objects : ℕ
  pub printed : ℕ
  pub spoiled : ℕ
  pub cents : ℕ

-- The next n runs of numbers.
unfoldable pub runs_in : ℕ → List ℕ → List Run
runs_in zero ns = []
runs_in (suc n) ns = record {
  model = get_or ns 0 0;
  rows = get_or ns 1 0;
  objects = get_or ns 2 0;
  printed = get_or ns 3 0;
  spoiled = get_or ns 4 0;
  cents = get_or ns 5 0;
} ∷ runs_in n (drop numbers_a_run ns)

unfoldable pub runs_of : List ℕ → List Run
runs_of ns = runs_in (length ns / numbers_a_run) ns

-- The line of a run whose program and store begin these slices; none where one of them runs past its slice too.
abbrev pub line_of_counts : Run → Counts → Counted
line_of_counts r c =
    record { model = r.model; printed = c.printed; spoiled = c.spoiled; cents = r.cents }

abbrev pub line_of_run : Run → List ℕ → List ℕ → Option Counted
line_of_run r programs stores = choice (leb r.rows (length programs / numbers_a_row))
    (λ _. map_option (line_of_counts r)
    (run_counts (take (numbers_a_row * r.rows) programs) stores r.objects r.printed r.spoiled))
    (λ _. none)

-- The lines of runs. Each takes its rows and objects right after those of the run before.
unfoldable pub lines_of_runs : List Run → List ℕ → List ℕ → List (Option Counted)
lines_of_runs [] programs stores = []
lines_of_runs (r ∷ rs) programs stores = line_of_run r programs stores
    ∷ lines_of_runs rs (drop (numbers_a_row * r.rows) programs)
    (drop (object_width * r.objects) stores)

-- The report over a fleet.
unfoldable pub fleet_report : List ℕ → List ℕ → List ℕ → Checked (List ℕ)
fleet_report runs programs stores = require (eqb (length runs % numbers_a_run) 0) line_refusal no_line λ _.
    report_of class_refusal (lines_of_runs (runs_of runs) programs stores)

-- The line that numbers begin with: model, printed, spoiled, cents; none where more labels are spoiled than printed.
abbrev pub counted_line : List ℕ → Option Counted
counted_line ns = choice (leb (get_or ns 2 0) (get_or ns 1 0))
    (λ _. some (record {
      model = get_or ns 0 0;
      printed = get_or ns 1 0;
      spoiled = get_or ns 2 0;
      cents = get_or ns 3 0;
    }))
    (λ _. none)

-- The next n counted lines of numbers.
unfoldable pub lines_in : ℕ → List ℕ → List (Option Counted)
lines_in zero ns = []
lines_in (suc n) ns = counted_line ns ∷ lines_in n (drop numbers_a_line ns)

unfoldable pub counted_lines : List ℕ → List (Option Counted)
counted_lines ns = lines_in (length ns / numbers_a_line) ns

-- The report over counted lines.
unfoldable pub models_report : List ℕ → Checked (List ℕ)
models_report counts = require (eqb (length counts % numbers_a_line) 0) line_refusal no_line λ _.
    report_of line_refusal (counted_lines counts)

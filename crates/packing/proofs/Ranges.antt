-- The numbers of answers are small enough to cross to C: no refusal has number 0, and its line, like every count of rows
-- or bytes written, is below 2^32.
use mathlib.Core.Path.{◌≡◌, refl, sym, ap, ◌∙◌}
use mathlib.Core.Logic.{inr}
use Prim.Native.Nat.{ℕ, suc, ◌+◌, ◌-◌, ◌*◌, ◌≤◌, ◌<◌}
use mathlib.Core.List.{List, [], ◌∷◌, map}
use lib.ListN.{length, length-map, length-append}
use native.Mathlib.Omega.{arith}
use Rattle.language.specs.Limits.{of_check, numbers_a_row, spent_stop, no_line, line_refusal, limit_refusal}
use Rattle.language.specs.Limits.{place_refusal, name_refusal, kind_refusal, override_refusal, slot_refusal}
use Rattle.language.specs.Limits.{member_refusal, type_refusal, effect_refusal, change_refusal}
use Rattle.language.specs.Limits.{reserved_refusal}
use Rattle.language.specs.Results.{Checked, accept, refuse}
use Rattle.language.specs.Rows.{Row, row_of, rows_of}
use Rattle.language.specs.Filling.{made_numbers}
use Rattle.language.specs.Alphabet.{ours}
use Rattle.language.specs.Texts.{read_text, write_rows}
use Rattle.language.specs.Tree.{Program, flatten_program}
use Rattle.language.specs.Form.{form}
use Rattle.language.specs.Translation.{translation}
use Rattle.language.specs.WellFormed.{RowsOf}
use Rattle.theory.proofs.acceptance.Acceptance.{rows_of_numbers, numbers_count}
use Rattle.theory.proofs.reading.FlattenProgram.{form_back}
use Rattle.text.proofs.Parsing.{read_fits}
use Rattle.text.proofs.Formatting.{write_fits}
use Rattle.promises.specs.Listed.{LineOf, ReaderRefusal, malformed_line, line_too_many, WriterRefusal}
use Rattle.promises.specs.Listed.{no_whole_rows_written, malformed_row, row_too_many, FormRefusal}
use Rattle.promises.specs.Listed.{refuses_line}
use Rattle.promises.specs.Listed.{refuses_limit, refuses_place, HeadingRefusal, refuses_fields}
use Rattle.promises.specs.Listed.{refuses_heading_name, refuses_kind, refuses_override, BodyRefusal}
use Rattle.promises.specs.Listed.{refuses_name, refuses_slot, refuses_member, refuses_type, refuses_effect}
use Rattle.promises.specs.Listed.{refuses_change, PassRefusal, by_form, by_headings, by_bodies, CheckRefusal}
use Rattle.promises.specs.Listed.{no_whole_rows, by_pass, TranslatorRefusal, by_check, over_limit}
use Rattle.promises.specs.Listed.{reserved_name, RunRefusal, no_rows_to_run, too_much_fuel, run_by_pass}
use Rattle.promises.proofs.programs.AcceptedTranslation.{demand_3_accepted}
use Rattle.theory.proofs.acceptance.Acceptance.{demand_2_accepts}
use Rattle.promises.specs.Totals.{ListRefusal, SumsRefusal, not_whole, by_lines, past_largest, not_counted}
use Rattle.promises.specs.PriceWords.{TermsRefusal, malformed, ends_early, signed_again, PriceRefusal}
use Rattle.promises.specs.PriceWords.{price_by_text, no_such_day, DatePriceRefusal, date_price_by_text}
use Rattle.promises.specs.PriceWords.{no_such_date, ReportRefusal, report_by_text, no_such_month, InOrder}
use Rattle.promises.specs.PriceWords.{no_more_runs, run_then, RunWritable}
use Rattle.promises.proofs.PriceDemands.{terms_refusals, refused_at_most, report_of_month, report_readable}
use Rattle.language.specs.WellFormed.{Each, each_nil, each_cons}
use Rattle.fleet.specs.Ranking.{Counted}
use mathlib.Core.Option.{Option}
use Rattle.prices.specs.Calendar.{date_refusal}
use Rattle.prices.specs.declared.Date.{Date}
use Rattle.prices.specs.Reports.{PriceRun, run_line, run_lines, price_report}
use Rattle.prices.proofs.Runs.{line_short}
use Rattle.packing.specs.Packed.{word}
use Rattle.packing.proofs.FormLines.{form_early}

-- A refusal's number and line that one number of two words holds.
pub record Tellable (number line : ℕ) : Type 0 where
  pub numbered : 1 ≤ number
  pub short : line < word

pub tells : (number line : ℕ) → 1 ≤ number → line < word → Tellable number line
tells number line a b = record { numbered = a; short = b }

-- One that is not taken for a stop or an exception of a run either.
pub record OfProgram (number line : ℕ) : Type 0 where
  pub numbered : 1 ≤ number
  pub below_stops : number < spent_stop
  pub early : line ≤ 1 + of_check.rows

pub tellable : {n l : ℕ} → OfProgram n l → Tellable n l
tellable w = record { numbered = w.numbered; short = omega (arith, w.early) }

-- ---- texts

pub reader_range : {text : List ℕ} {n l : ℕ} → ReaderRefusal text n l → Tellable n l
reader_range (malformed_line {n} h a b c) = tells line_refusal (1 + n) (omega arith) (omega (arith, h))
reader_range (line_too_many a b) = tells limit_refusal (1 + of_check.rows) (omega arith) (omega arith)

pub writer_range : {ns : List ℕ} {n l : ℕ} → WriterRefusal ns n l → Tellable n l
writer_range (no_whole_rows_written a) = tells line_refusal no_line (omega arith) (omega arith)
writer_range (malformed_row {n} r h a b c) = tells line_refusal (1 + n) (omega arith) (omega (arith, h))
writer_range (row_too_many a b) = tells limit_refusal (1 + of_check.rows) (omega arith) (omega arith)

-- A text has at most 60,000 rows of four numbers, and a row's line at most 14 bytes: what is read or written fits where
-- there is room for these.
abbrev longest_line : ℕ
longest_line = 14

abbrev most_numbers : ℕ
most_numbers = numbers_a_row * of_check.rows

abbrev most_bytes : ℕ
most_bytes = longest_line * of_check.rows

pub numbers_read : (text : List ℕ) → length (made_numbers (read_text ours text)) ≤ most_numbers
numbers_read text = read_fits ours text most_numbers (inr (omega arith))

pub bytes_written : (ns : List ℕ) → length (made_numbers (write_rows ours ns)) ≤ most_bytes
bytes_written ns = write_fits ours ns most_bytes (inr (omega arith))

-- ---- programs

-- What form accepts has no more rows than are allowed.
rows_allowed : (ns : List ℕ) (p : Program) → form of_check (rows_of ns) ≡ accept p
    → length (rows_of ns) ≤ of_check.rows
rows_allowed ns p e = let f = form_back of_check (omega arith) (rows_of ns) p e in
    omega (arith, f.1.rows, ap length f.0, length-map (flatten_program p) row_of)

-- A refusal by a pass: its number is below those of stops, and its line is one that is read.
read_line : (number : ℕ) {line : ℕ} → 1 ≤ number → number < spent_stop → line ≤ 1 + of_check.rows
    → OfProgram number line
read_line number a b h = record { numbered = a; below_stops = b; early = h }

-- The same on one of the rows of a program.
row_line : (number : ℕ) {rows line : ℕ} → 1 ≤ number → number < spent_stop → LineOf rows line
    → rows ≤ of_check.rows → OfProgram number line
row_line number a b w h = read_line number a b (omega (arith, w.to, h))

form_range : {rows : List Row} {n l : ℕ} → FormRefusal rows n l → l ≤ 1 + of_check.rows → OfProgram n l
form_range (refuses_line r w a b) h = read_line line_refusal (omega arith) (omega arith) h
form_range (refuses_limit w) h = read_line limit_refusal (omega arith) (omega arith) h
form_range (refuses_place w) h = read_line place_refusal (omega arith) (omega arith) h

heading_range : {rows n l : ℕ} → HeadingRefusal rows n l → rows ≤ of_check.rows → OfProgram n l
heading_range (refuses_fields w) h = row_line limit_refusal (omega arith) (omega arith) w h
heading_range (refuses_heading_name w) h = row_line name_refusal (omega arith) (omega arith) w h
heading_range (refuses_kind w) h = row_line kind_refusal (omega arith) (omega arith) w h
heading_range (refuses_override w) h = row_line override_refusal (omega arith) (omega arith) w h

body_range : {rows n l : ℕ} → BodyRefusal rows n l → rows ≤ of_check.rows → OfProgram n l
body_range (refuses_name w) h = row_line name_refusal (omega arith) (omega arith) w h
body_range (refuses_slot w) h = row_line slot_refusal (omega arith) (omega arith) w h
body_range (refuses_member w) h = row_line member_refusal (omega arith) (omega arith) w h
body_range (refuses_type w) h = row_line type_refusal (omega arith) (omega arith) w h
body_range (refuses_effect w) h = row_line effect_refusal (omega arith) (omega arith) w h
body_range (refuses_change w) h = row_line change_refusal (omega arith) (omega arith) w h

pass_range : (ns : List ℕ) {n l : ℕ} → PassRefusal ns n l → OfProgram n l
pass_range ns (by_form {n} {l} e w) = form_range w (form_early of_check (rows_of ns) n l e)
pass_range ns (by_headings p e a w) = heading_range w (rows_allowed ns p e)
pass_range ns (by_bodies p e a b w) = body_range w (rows_allowed ns p e)

pub check_range : (ns : List ℕ) {n l : ℕ} → CheckRefusal ns n l → OfProgram n l
check_range ns (no_whole_rows a) =
    read_line line_refusal {line = no_line} (omega arith) (omega arith) (omega arith)
check_range ns (by_pass a w) = pass_range ns w

pub run_range : (ns : List ℕ) (fuel : ℕ) {n l : ℕ} → RunRefusal ns fuel n l → OfProgram n l
run_range ns fuel (no_rows_to_run a) =
    read_line line_refusal {line = no_line} (omega arith) (omega arith) (omega arith)
run_range ns fuel (too_much_fuel a b) =
    read_line limit_refusal {line = no_line} (omega arith) (omega arith) (omega arith)
run_range ns fuel (run_by_pass a b w) = pass_range ns w

-- The rows of a program that is accepted are at most 60,000.
rows_of_program : (ns : List ℕ) (p : Program) → RowsOf ns p → length (rows_of ns) ≤ of_check.rows
rows_of_program ns p w =
    let rows = map row_of (flatten_program p) in
    let e : rows_of ns ≡ rows = ap rows_of (sym w.rows) ∙ rows_of_numbers rows in
    omega (arith, ap length e, length-map (flatten_program p) row_of, w.in_form.rows)

pub translator_range : (ns : List ℕ) {n l : ℕ} → TranslatorRefusal ns n l → Tellable n l
translator_range ns (by_check w) = tellable (check_range ns w)
translator_range ns (over_limit p w at o) =
    tellable (row_line limit_refusal (omega arith) (omega arith) at (rows_of_program ns p w))
translator_range ns (reserved_name p type name w a at b c) =
    tellable (row_line reserved_refusal (omega arith) (omega arith) at (rows_of_program ns p w))

-- A plain program is accepted, so it has at most 60,000 rows too.
pub numbers_translated : (ns : List ℕ) → length (made_numbers (translation ns)) ≤ most_numbers
numbers_translated ns = go (translation ns) refl
  where
    go : (c : Checked (List ℕ)) → translation ns ≡ c → length (made_numbers c) ≤ most_numbers
    go (accept out) e = let w = (demand_2_accepts out).0 (demand_3_accepted ns out e) in
        let rows = map row_of (flatten_program w.program) in
        omega (
          arith,
          ap length w.rows_of_it.rows,
          numbers_count rows,
          length-map (flatten_program w.program) row_of,
          w.rows_of_it.in_form.rows,
        )
    go (refuse number line) e = omega arith

-- ---- fleets

-- Lines that are not counted are refused with a number that is not 0.
pub lines_range : {number left_over n l : ℕ} {cs : List (Option Counted)} → 1 ≤ number
    → ListRefusal left_over (SumsRefusal number cs) n l → 1 ≤ n
lines_range h (not_whole a) = omega arith
lines_range h (by_lines a (past_largest xs c rest b d e)) = omega arith
lines_range h (by_lines a (not_counted xs rest b d)) = h

-- ---- price terms

terms_range : (text : List ℕ) {n l : ℕ} → TermsRefusal text n l → Tellable n l
terms_range text {n} {l} w =
    record {
      numbered = number w;
      short = omega (arith, refused_at_most text n l ((terms_refusals text n l).1 w));
    }
  where
    number : {n l : ℕ} → TermsRefusal text n l → 1 ≤ n
    number (malformed ts rest a b c d) = omega arith
    number (ends_early ts t rest a b c d) = omega arith
    number (signed_again ts t rest a b c d) = omega arith

pub price_range : {text : List ℕ} {day n l : ℕ} → PriceRefusal text day n l → Tellable n l
price_range {text} (price_by_text w) = terms_range text w
price_range (no_such_day ts a b) = tells date_refusal no_line (omega arith) (omega arith)

pub date_price_range : {text : List ℕ} {d : Date} {n l : ℕ} → DatePriceRefusal text d n l → Tellable n l
date_price_range {text} (date_price_by_text w) = terms_range text w
date_price_range (no_such_date ts a b) = tells date_refusal no_line (omega arith) (omega arith)

pub report_range : {text : List ℕ} {year month n l : ℕ} → ReportRefusal text year month n l → Tellable n l
report_range {text} (report_by_text w) = terms_range text w
report_range (no_such_month ts a b) = tells date_refusal no_line (omega arith) (omega arith)

-- A report of prices has a line of at most 18 bytes for each run of its days.
lines_short : (end first : ℕ) (rs : List PriceRun) → InOrder end first rs → Each RunWritable rs → first ≤ end
    → length (run_lines rs) ≤ 18 * (end - first)
unfolding run_lines
lines_short end first [] no_more_runs each_nil h = omega arith
lines_short end first (r ∷ rs) (run_then a b c o) (each_cons w ws) h = omega (
  arith,
  a,
  b,
  c,
  lines_short end (suc r.to) rs o ws c,
  length-append (run_line r) (run_lines rs),
  line_short r.from r.to r.cents w.from_to w.to_to w.cents_to,
)

pub prices_written : (text : List ℕ) (model year month : ℕ)
    → length (made_numbers (price_report text model year month)) < word
prices_written text model year month = go (price_report text model year month) refl
  where
    go : (c : Checked (List ℕ)) → price_report text model year month ≡ c → length (made_numbers c) < word
    go (accept bytes) e = let w = (report_of_month text model year month bytes).0 e in
        let days = w.days in
        omega (
          arith,
          ap length w.written,
          w.days_of_month.in_range,
          lines_short (days.first + days.count) days.first w.runs w.runs_of_days.in_order
              (report_readable text model year month bytes w) (omega arith),
        )
    go (refuse number line) e = omega arith

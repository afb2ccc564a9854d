-- The answers that document 01 lists ("Refusals and stops"): of the reader, the writer, the check, the
-- translator, a run and a service that fills a lent buffer; refusals by number and line, each with its
-- condition or with the pass that gives it, and with what was lent unchanged.
use Rattle.std.specs.Prelude.{Some, None, Result, Ok, Err}
use Rattle.language.specs.Refusals.{refusal}
use Rattle.language.specs.declared.Refusal.{Refusal as CodeRefusal}
use Rattle.language.specs.declared.Line.{Line}
use Rattle.std.specs.Prelude.{◌≡◌, ◌≢◌, ℕ, ◌+◌, ◌-◌, ◌*◌, ◌/◌, ◌%◌, ◌≤◌, ◌<◌, true, false, List, [], ◌++◌, length, drop}
use Rattle.std.proofs.Math.Option.{none, some}
use Rattle.language.specs.Limits.{of_check, line_refusal, limit_refusal, place_refusal, name_refusal}
use Rattle.language.specs.Limits.{kind_refusal}
use Rattle.language.specs.Limits.{override_refusal, slot_refusal, member_refusal, type_refusal}
use Rattle.language.specs.Limits.{effect_refusal, change_refusal, reserved_refusal, room_refusal, no_line}
use Rattle.language.specs.Limits.{most_fuel, numbers_a_row, object_width, null_exception}
use Rattle.language.specs.Limits.{cast_exception}
use Rattle.language.specs.Lists.{nth}
use Rattle.language.specs.Results.{Checked, accept, refuse, passed}
use Rattle.language.specs.Rows.{F_field, written, Row, row_of, record_of, is_row, rows_of}
use Rattle.language.specs.Alphabet.{ours}
use Rattle.language.specs.TextLines.{line_of}
use Rattle.language.specs.Tree.{Program}
use Rattle.language.specs.Uses.{OverLimit}
use Rattle.language.specs.Form.{form}
use Rattle.language.specs.Headings.{headings}
use Rattle.language.specs.Typing.{bodies}
use Rattle.language.specs.Verdict.{Verdict, accepted, refused}
use Rattle.language.specs.Translation.{within_limits}
use Rattle.language.specs.State.{Value, raised, spent, deep, full}
use Rattle.language.specs.Store.{capacity, Outcome, gave, ended, ran, Ran, refused as run_refused}
use Rattle.language.specs.WellFormed.{RowsOf}
use Rattle.promises.specs.Endings.{translator_column}

-- A line of `rows` rows.
pub record LineOf (rows l : ℕ) : Type 0 where
  pub from : 1 ≤ l
  pub to : l ≤ rows

-- n lines of a text that hold a row each, and the text after them.
pub data LinesRead : ℕ → List ℕ → List ℕ → Type 0 where
  no_line_read : {text : List ℕ} → LinesRead 0 text text
  line_read : {n : ℕ} {l : Line} {text rest : List ℕ} → line_of ours text ≡ Some l
      → LinesRead n (drop l.end text) rest → LinesRead (1 + n) text rest

-- The reader: 1 on the first line that is malformed, 2 on line 60,001 where the lines before it hold a row
-- each.
pub data ReaderRefusal (text : List ℕ) : ℕ → ℕ → Type 0 where
  malformed_line : {n : ℕ} {rest : List ℕ} → n < of_check.rows → LinesRead n text rest → rest ≢ []
      → line_of ours rest ≡ None → ReaderRefusal text line_refusal (1 + n)
  line_too_many : {rest : List ℕ} → LinesRead of_check.rows text rest → rest ≢ []
      → ReaderRefusal text limit_refusal (1 + of_check.rows)

-- None of the first n rows is malformed.
abbrev pub WellMade : List ℕ → ℕ → Type 0
WellMade ns n = (i : ℕ) (r : Row) → i < n → nth (rows_of ns) i ≡ some r → is_row r ≡ true

-- The writer: 1 on no line where the numbers are not whole rows, 1 on the first line whose row is malformed,
-- 2 on line 60,001 where there are more rows and none before it is malformed.
pub data WriterRefusal (ns : List ℕ) : ℕ → ℕ → Type 0 where
  no_whole_rows_written : length ns % numbers_a_row ≢ 0 → WriterRefusal ns line_refusal no_line
  malformed_row : {n : ℕ} (r : Row) → n < of_check.rows → WellMade ns n → nth (rows_of ns) n ≡ some r
      → is_row r ≡ false → WriterRefusal ns line_refusal (1 + n)
  row_too_many : WellMade ns of_check.rows → of_check.rows < length (rows_of ns)
      → WriterRefusal ns limit_refusal (1 + of_check.rows)

-- The pass over form: 1 on a row that is not a record, 2 on one of the rows, 3 there or one line past the
-- end.
pub data FormRefusal (rows : List Row) : ℕ → ℕ → Type 0 where
  refuses_line : {l : ℕ} (r : Row) → LineOf (length rows) l → nth rows (l - 1) ≡ some r → record_of r ≡ none
      → FormRefusal rows line_refusal l
  refuses_limit : {l : ℕ} → LineOf (length rows) l → FormRefusal rows limit_refusal l
  refuses_place : {l : ℕ} → LineOf (1 + length rows) l → FormRefusal rows place_refusal l

-- The pass over headings: 2 for fields, 4, 5 or 6.
pub data HeadingRefusal (rows : ℕ) : ℕ → ℕ → Type 0 where
  refuses_fields : {l : ℕ} → LineOf rows l → HeadingRefusal rows limit_refusal l
  refuses_heading_name : {l : ℕ} → LineOf rows l → HeadingRefusal rows name_refusal l
  refuses_kind : {l : ℕ} → LineOf rows l → HeadingRefusal rows kind_refusal l
  refuses_override : {l : ℕ} → LineOf rows l → HeadingRefusal rows override_refusal l

-- The pass over bodies: 4, 7, 8, 9, 10 or 11.
pub data BodyRefusal (rows : ℕ) : ℕ → ℕ → Type 0 where
  refuses_name : {l : ℕ} → LineOf rows l → BodyRefusal rows name_refusal l
  refuses_slot : {l : ℕ} → LineOf rows l → BodyRefusal rows slot_refusal l
  refuses_member : {l : ℕ} → LineOf rows l → BodyRefusal rows member_refusal l
  refuses_type : {l : ℕ} → LineOf rows l → BodyRefusal rows type_refusal l
  refuses_effect : {l : ℕ} → LineOf rows l → BodyRefusal rows effect_refusal l
  refuses_change : {l : ℕ} → LineOf rows l → BodyRefusal rows change_refusal l

-- The passes of the check: each refuses where those before it accept.
pub data PassRefusal (ns : List ℕ) : ℕ → ℕ → Type 0 where
  by_form : {n l : ℕ} → form of_check (rows_of ns) ≡ refuse n l → FormRefusal (rows_of ns) n l
      → PassRefusal ns n l
  by_headings : {n l : ℕ} (p : Program) → form of_check (rows_of ns) ≡ accept p
      → headings of_check p.classes ≡ refuse n l → HeadingRefusal (length (rows_of ns)) n l
      → PassRefusal ns n l
  by_bodies : {n l : ℕ} (p : Program) → form of_check (rows_of ns) ≡ accept p
      → headings of_check p.classes ≡ passed → bodies p ≡ refuse n l
      → BodyRefusal (length (rows_of ns)) n l → PassRefusal ns n l

-- The check: 1 on no line where the numbers are not whole rows; where they are, as one of its passes.
pub data CheckRefusal (ns : List ℕ) : ℕ → ℕ → Type 0 where
  no_whole_rows : length ns % numbers_a_row ≢ 0 → CheckRefusal ns line_refusal no_line
  by_pass : {n l : ℕ} → length ns % numbers_a_row ≡ 0 → PassRefusal ns n l → CheckRefusal ns n l

-- The names that the plain program needs for itself. The numbers are written out, as in Endings.
pub data Reserved : ℕ → Type 0 where
  names_id : Reserved 254
  names_imp : Reserved 255

-- The translator: as the check; then 2 on a line of the program that is over its column of limits; then,
-- where none is, 12 on an F line that gives a reserved name.
pub data TranslatorRefusal (ns : List ℕ) : ℕ → ℕ → Type 0 where
  by_check : {n l : ℕ} → CheckRefusal ns n l → TranslatorRefusal ns n l
  over_limit : {l : ℕ} (p : Program) → RowsOf ns p → LineOf (length (rows_of ns)) l
      → OverLimit translator_column p l → TranslatorRefusal ns limit_refusal l
  reserved_name : {l : ℕ} (p : Program) (type name : ℕ) → RowsOf ns p → within_limits ns p ≡ passed
      → LineOf (length (rows_of ns)) l
      → nth (rows_of ns) (l - 1) ≡ some (row_of (written F_field type name)) → Reserved name
      → TranslatorRefusal ns reserved_refusal l

-- A run: 1 on no line where the numbers are not whole rows; then 2 on no line where the fuel is above
-- 100,000,000; then as one of the check's passes.
pub data RunRefusal (ns : List ℕ) (fuel : ℕ) : ℕ → ℕ → Type 0 where
  no_rows_to_run : length ns % numbers_a_row ≢ 0 → RunRefusal ns fuel line_refusal no_line
  too_much_fuel : length ns % numbers_a_row ≡ 0 → most_fuel < fuel → RunRefusal ns fuel limit_refusal no_line
  run_by_pass : {n l : ℕ} → length ns % numbers_a_row ≡ 0 → fuel ≤ most_fuel → PassRefusal ns n l
      → RunRefusal ns fuel n l

-- The verdict: accepted, or refused as listed for the check.
pub data ListedVerdict (ns : List ℕ) : Verdict → Type 0 where
  is_accepted : ListedVerdict ns accepted
  is_refused : {n l : ℕ} → CheckRefusal ns n l → ListedVerdict ns (refused n l)

-- How a run ends: a value, exception 1 or 2, 14, 15 or 16.
pub data ListedOutcome : Outcome → Type 0 where
  a_value : {v : Value} → ListedOutcome (gave v)
  exception_1 : ListedOutcome (ended (raised null_exception))
  exception_2 : ListedOutcome (ended (raised cast_exception))
  stop_14 : ListedOutcome (ended spent)
  stop_15 : ListedOutcome (ended deep)
  stop_16 : ListedOutcome (ended full)

-- The answer of a run with its fuel and its store, and the store afterwards. Refused as listed, the store is
-- unchanged. Else the run ends in one of the ways listed, with no more steps than fuel and no more objects
-- than the store has room for; the store is as long as before, and what held no made object is unchanged.
pub data ListedRun (ns : List ℕ) (fuel : ℕ) (store : List ℕ) : Ran → Type 0 where
  is_refused_run : {n l : ℕ} → RunRefusal ns fuel n l
      → ListedRun ns fuel store (record { answer = run_refused n l; store = store })
  is_run : {o : Outcome} {steps objects changes : ℕ} {after : List ℕ} → ListedOutcome o
      → steps ≤ fuel → objects ≤ capacity store → length after ≡ length store
      → drop (object_width * objects) after ≡ drop (object_width * objects) store
      → ListedRun ns fuel store (record { answer = ran o steps objects changes; store = after })

-- A service that fills a lent buffer with the numbers it makes, n to a record, and the buffer
-- afterwards: the numbers and then what was there past them; 13 on no line where they do not fit, or a
-- refusal that is listed for their making, and then the buffer is unchanged.
pub data ListedFilling (width : ℕ) (Refusal : ℕ → ℕ → Type 0) (made : Checked (List ℕ)) (old : List ℕ) :
    Result ℕ CodeRefusal → List ℕ → Type 0 where
  is_filled : {xs : List ℕ} → made ≡ accept xs → length xs ≤ length old
      → ListedFilling width Refusal made old (Ok (length xs / width)) (xs ++ drop (length xs) old)
  has_no_room : {xs : List ℕ} → made ≡ accept xs → length old < length xs
      → ListedFilling width Refusal made old (Err (refusal room_refusal no_line)) old
  is_not_made : {n l : ℕ} → made ≡ refuse n l → Refusal n l
      → ListedFilling width Refusal made old (Err (refusal n l)) old

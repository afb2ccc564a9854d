-- Nothing is lost on the way to C: from the number returned and the numbers stored, Unpacked gives back every answer that
-- a service can give, whatever its input, and whatever the caller had where a service stores nothing. So the comments of
-- include/fickle.h, which say the functions of Unpacked in words, tell each answer from every other.
use mathlib.Core.Path.{◌≡◌, refl, ap, ◌∙◌}
use Prim.Native.Nat.{ℕ, ◌/◌, ◌≤◌, ◌<◌}
use mathlib.Core.Bool.{true, false}
use mathlib.Core.Option.{Option, none, some}
use mathlib.Core.List.{List}
use lib.ListN.{length}
use lib.Dec.{eqb}
use borrow.Author.Tests.{ne_eqb}
use native.Mathlib.Omega.{arith}
use Rattle.language.specs.Results.{Checked}
use Rattle.language.specs.Limits.{numbers_a_row, room_refusal, no_line, null_exception, cast_exception}
use Rattle.language.specs.Limits.{spent_stop}
use Rattle.language.specs.Limits.{deep_stop, full_stop}
use Rattle.language.specs.Filling.{answer, made_numbers}
use Rattle.std.specs.Prelude.{Option as Maybe, Some, None, Result, Ok, Err}
use Rattle.language.specs.Refusals.{refusal as refusal_of}
use Rattle.language.specs.declared.Refusal.{Refusal as CodeRefusal}
use Rattle.language.specs.Alphabet.{ours}
use Rattle.language.specs.Texts.{read_text, write_rows}
use Rattle.language.specs.Verdict.{Verdict, accepted, refused, verdict}
use Rattle.language.specs.Translation.{translation}
use Rattle.language.specs.State.{Value, null, truth, object}
use Rattle.language.specs.Store.{Outcome, gave, ran, Ran, run_of}
use Rattle.fleet.specs.Counts.{class_refusal, first_place, Counts, labels, run_counts, counts_through, count_told}
use Rattle.fleet.specs.Ranking.{report_answer}
use Rattle.fleet.specs.Fleet.{fleet_report, models_report}
use Rattle.fleet.specs.declared.Fault.{Fault}
use Rattle.prices.specs.Calendar.{date, day_answer, date_answer}
use Rattle.prices.specs.Prices.{price_on_day, price_on_date}
use Rattle.prices.specs.Reports.{price_report}
use Rattle.prices.specs.declared.Date.{Date}
use Rattle.prices.specs.declared.Price.{Price}
use Rattle.promises.specs.Listed.{ListedFilling, is_filled, has_no_room, is_not_made, ListedVerdict}
use Rattle.promises.specs.Listed.{is_accepted}
use Rattle.promises.specs.Listed.{is_refused, ListedOutcome, a_value, exception_1, exception_2, stop_14}
use Rattle.promises.specs.Listed.{stop_15, stop_16, ListedRun, is_refused_run, is_run}
use Rattle.promises.proofs.Demands.{demand_1_reader, demand_1_writer, demand_1_verdict, demand_1_translation}
use Rattle.promises.proofs.Demands.{demand_1_run}
use Rattle.promises.specs.Totals.{ListedReport, is_reported, has_no_room as no_room_for_report}
use Rattle.promises.specs.Totals.{is_not_made as not_reported}
use Rattle.promises.proofs.FleetDemands.{fleet_answers, models_answers}
use Rattle.promises.proofs.CalendarDemands.{day_answered, day_answer_refused, date_answer_refused}
use Rattle.promises.proofs.PriceDemands.{price_refusals, date_price_refusals, price_report_answers}
use Rattle.packing.specs.Packed.{word, refusal, packed, packed_verdict, exception, kind, content}
use Rattle.packing.specs.Packed.{packed_answer, kind_after, content_after, steps_after, objects_after}
use Rattle.packing.specs.Packed.{changes_after, packed_count, printed_after, spoiled_after}
use Rattle.packing.specs.Packed.{report_number, report_told, packed_day, packed_date, year_after}
use Rattle.packing.specs.Packed.{month_after, day_after, packed_price, cents_after, line_after, priced}
use Rattle.packing.specs.Unpacked.{number_in, line_in, by_number, unpacked, unpacked_verdict}
use Rattle.packing.specs.Unpacked.{unpacked_value, without_value, unpacked_run, unpacked_count}
use Rattle.packing.specs.Unpacked.{unpacked_report, done_or_refused, price_told}
use Rattle.packing.specs.Unpacked.{unpacked_day, unpacked_date, unpacked_price}
use Rattle.packing.proofs.Ranges.{Tellable, tells, OfProgram, tellable, reader_range, writer_range}
use Rattle.packing.proofs.Ranges.{check_range, run_range}
use Rattle.packing.proofs.Ranges.{translator_range, numbers_read, bytes_written, numbers_translated}
use Rattle.packing.proofs.Ranges.{lines_range, price_range, date_price_range, report_range}
use Rattle.packing.proofs.Ranges.{prices_written}

-- ---- two words

-- A result below 2^32 is the second word, and the first is 0.
result_back : {A : Type 0} (result : ℕ → A) (other : ℕ → ℕ → A) (n : ℕ) → n < word
    → by_number result other n ≡ result n
result_back result other n h =
    let a : number_in n ≡ 0 = omega (arith, h) in let b : line_in n ≡ n = omega (arith, h) in
    rw (a, b)

-- A number that is not 0 and a line below 2^32 are the two words.
refusal_back : {A : Type 0} (result : ℕ → A) (other : ℕ → ℕ → A) {number line : ℕ} → Tellable number line
    → by_number result other (refusal number line) ≡ other number line
refusal_back result other {number} {line} w =
    let a : number_in (refusal number line) ≡ number = omega (arith, w.short) in
    let b : line_in (refusal number line) ≡ line = omega (arith, w.short) in
    rw (a, b, ne_eqb number 0 (λ e. omega (arith, e, w.numbered)))

-- Both of an answer.
done_back : {A : Type 0} (done : ℕ → A) (n : ℕ) → n < word → done_or_refused done n ≡ Ok (done n)
done_back done n h = result_back (λ n. Ok (done n)) (λ number line. Err (refusal_of number line)) n h

refused_back : {A : Type 0} (done : ℕ → A) {number line : ℕ} → Tellable number line
    → done_or_refused done (refusal number line) ≡ Err (refusal_of number line)
refused_back done w = refusal_back (λ n. Ok (done n)) (λ number line. Err (refusal_of number line)) w

-- ---- texts, the check, the translation

-- An answer of a service that fills a lent buffer, where two words hold its refusals and the count of what it writes.
filling_back : (width : ℕ) {Refusal : ℕ → ℕ → Type 0} {made : Checked (List ℕ)} {old after : List ℕ}
    {a : Result ℕ CodeRefusal}
    → ListedFilling width Refusal made old a after → ((n l : ℕ) → Refusal n l → Tellable n l)
    → length (made_numbers made) / width < word → unpacked (packed a) ≡ a
filling_back width (is_filled {xs} e h) range few =
    done_back (λ n. n) (length xs / width) (rw (ap (λ c. length (made_numbers c) / width) e) at few)
filling_back width (has_no_room e h) range few =
    refused_back (λ n. n) (tells room_refusal no_line (omega arith) (omega arith))
filling_back width (is_not_made {n} {l} e w) range few = refused_back (λ n. n) (range n l w)

-- What the reader returns tells how many rows it wrote, or its refusal.
pub reader_faithful : (text old : List ℕ)
    → let a = answer numbers_a_row (read_text ours text) (length old) in unpacked (packed a) ≡ a
reader_faithful text old = filling_back numbers_a_row (demand_1_reader text old) (λ n l w. reader_range w)
    (omega (arith, numbers_read text))

-- What the writer returns tells how many bytes it wrote, or its refusal.
pub writer_faithful : (rows old : List ℕ)
    → let a = answer 1 (write_rows ours rows) (length old) in unpacked (packed a) ≡ a
writer_faithful rows old = filling_back 1 (demand_1_writer rows old) (λ n l w. writer_range w)
    (omega (arith, bytes_written rows))

-- What the check returns tells that it accepts the rows, or its refusal.
pub check_faithful : (rows : List ℕ) → unpacked_verdict (packed_verdict (verdict rows)) ≡ verdict rows
check_faithful rows = go (demand_1_verdict rows)
  where
    go : {v : Verdict} → ListedVerdict rows v → unpacked_verdict (packed_verdict v) ≡ v
    go is_accepted = result_back (λ _. accepted) refused 0 (omega arith)
    go (is_refused w) = refusal_back (λ _. accepted) refused (tellable (check_range rows w))

-- What the translator returns tells how many plain rows it wrote, or its refusal.
pub translator_faithful : (rows old : List ℕ)
    → let a = answer numbers_a_row (translation rows) (length old) in unpacked (packed a) ≡ a
translator_faithful rows old =
    filling_back numbers_a_row (demand_1_translation rows old) (λ n l w. translator_range rows w)
    (omega (arith, numbers_translated rows))

-- ---- runs

value_back : (v : Value) → unpacked_value (kind v) (content v) ≡ v
value_back null = refl
value_back (truth true) = refl
value_back (truth false) = refl
value_back (object j) = refl

-- What a run returns and stores tells the value, the exception or the stop in which it ended, with its steps, objects and
-- changes of class, or its refusal. No run is stuck, so a value is never taken for that.
pub run_faithful : (rows : List ℕ) (fuel : ℕ) (store : List ℕ) (kind₀ content₀ steps₀ objects₀ changes₀ : ℕ)
    → let a = (run_of rows fuel store).answer in
    unpacked_run (packed_answer a) (kind_after a kind₀) (content_after a content₀) (steps_after a steps₀)
    (objects_after a objects₀) (changes_after a changes₀) ≡ a
run_faithful rows fuel store kind₀ content₀ steps₀ objects₀ changes₀ = go (demand_1_run rows fuel store)
  where
    low : {n l m : ℕ} → OfProgram n l → spent_stop ≤ m → eqb n m ≡ false
    low {n} {l} {m} w h = ne_eqb n m (λ e. omega (arith, e, h, w.below_stops))

    other : (steps objects changes : ℕ) {number line : ℕ} → Tellable number line
        → unpacked_run (refusal number line) kind₀ content₀ steps objects changes
        ≡ without_value steps objects changes number line
    other steps objects changes w =
        refusal_back (λ _. ran (gave (unpacked_value kind₀ content₀)) steps objects changes)
        (without_value steps objects changes) w

    ends : {o : Outcome} (steps objects changes : ℕ) → ListedOutcome o
        → let a = ran o steps objects changes in
        unpacked_run (packed_answer a) (kind_after a kind₀) (content_after a content₀) steps objects changes
        ≡ a
    ends steps objects changes (a_value {v}) =
        result_back (λ _. ran (gave (unpacked_value (kind v) (content v))) steps objects changes)
        (without_value steps objects changes) 0 (omega arith)
        ∙ ap (λ (x : Value). ran (gave x) steps objects changes) (value_back v)
    ends steps objects changes exception_1 =
        other steps objects changes (tells exception null_exception (omega arith) (omega arith))
    ends steps objects changes exception_2 =
        other steps objects changes (tells exception cast_exception (omega arith) (omega arith))
    ends steps objects changes stop_14 =
        other steps objects changes (tells spent_stop 0 (omega arith) (omega arith))
    ends steps objects changes stop_15 =
        other steps objects changes (tells deep_stop 0 (omega arith) (omega arith))
    ends steps objects changes stop_16 =
        other steps objects changes (tells full_stop 0 (omega arith) (omega arith))

    go : {r : Ran} → ListedRun rows fuel store r → let a = r.answer in
        unpacked_run (packed_answer a) (kind_after a kind₀) (content_after a content₀) (steps_after a steps₀)
        (objects_after a objects₀) (changes_after a changes₀) ≡ a
    go (is_refused_run {n} {l} w) = let r = run_range rows fuel w in
        other steps₀ objects₀ changes₀ (tellable r)
        ∙ rw (
          low {m = exception} r (omega arith),
          low {m = spent_stop} r (omega arith),
          low {m = deep_stop} r (omega arith),
          low {m = full_stop} r (omega arith),
        )
    go (is_run {steps} {objects} {changes} o a b c d) = ends steps objects changes o

-- ---- labels and reports over fleets

count_back : (c : Option Counts) (printed₀ spoiled₀ : ℕ)
    → let a = count_told c in
    unpacked_count (packed_count a) (printed_after a printed₀) (spoiled_after a spoiled₀) ≡ a
count_back (some c) printed₀ spoiled₀ =
    done_back (λ _. labels c.printed c.spoiled) 0 (omega arith)
count_back none printed₀ spoiled₀ = refused_back (λ _. labels printed₀ spoiled₀)
    (tells class_refusal first_place (omega arith) (omega arith))

-- What counting a run returns and stores tells its two counts, or its refusal.
pub count_faithful : (rows store : List ℕ) (objects printed spoiled printed₀ spoiled₀ : ℕ)
    → let a = count_told (run_counts rows store objects printed spoiled) in
    unpacked_count (packed_count a) (printed_after a printed₀) (spoiled_after a spoiled₀) ≡ a
count_faithful rows store objects printed spoiled = count_back (run_counts rows store objects printed spoiled)

-- So it is where the run is counted through the store of its plain run.
pub plain_count_faithful : (rows store : List ℕ) (objects printed spoiled printed₀ spoiled₀ : ℕ)
    → let a = count_told (counts_through rows store objects printed spoiled) in
    unpacked_count (packed_count a) (printed_after a printed₀) (spoiled_after a spoiled₀) ≡ a
plain_count_faithful rows store objects printed spoiled =
    count_back (counts_through rows store objects printed spoiled)

report_back : {Refusal : ℕ → ℕ → Type 0} {made : Checked (List ℕ)} {old after : List ℕ} {a : Result ℕ Fault}
    → ListedReport Refusal made old a after → ((n l : ℕ) → Refusal n l → 1 ≤ n)
    → unpacked_report (report_number a) (report_told a) ≡ a
report_back (is_reported e h) range = refl
report_back (no_room_for_report e h) range = refl
report_back (not_reported {n} {k} e w) range = rw (ne_eqb n 0 (λ q. omega (arith, q, range n k w)))

-- What a report over counted lines returns and stores tells how many bytes it has, or its refusal.
pub models_faithful : (counts old : List ℕ)
    → let a = report_answer (models_report counts) (length old) in
    unpacked_report (report_number a) (report_told a) ≡ a
models_faithful counts old = report_back (models_answers counts old) (λ n l w. lines_range (omega arith) w)

-- So it is with a report over a fleet.
pub fleet_faithful : (runs programs stores old : List ℕ)
    → let a = report_answer (fleet_report runs programs stores) (length old) in
    unpacked_report (report_number a) (report_told a) ≡ a
fleet_faithful runs programs stores old =
    report_back (fleet_answers runs programs stores old) (λ n l w. lines_range (omega arith) w)

-- ---- the calendar and prices

-- What is returned for a date tells its day, or the refusal.
pub day_faithful : (year month day : ℕ)
    → let a = day_answer year month day in unpacked_day (packed_day a) ≡ a
day_faithful year month day = go (day_answer year month day) refl
  where
    go : (a : Result ℕ CodeRefusal) → day_answer year month day ≡ a → unpacked_day (packed_day a) ≡ a
    go (Ok n) e = done_back (λ n. n) n (omega (arith, ((day_answered year month day n).0 e).0))
    go (Err r) e = let w = (day_answer_refused year month day r.number r.line).0 e in
        refused_back (λ n. n) (tells r.number r.line (omega (arith, w.number_is)) (omega (arith, w.line_is)))

-- What is returned and stored for a day tells its date, or the refusal.
pub date_faithful : (n year₀ month₀ day₀ : ℕ)
    → let a = date_answer n in
    unpacked_date (packed_date a) (year_after a year₀) (month_after a month₀) (day_after a day₀) ≡ a
date_faithful n year₀ month₀ day₀ = go (date_answer n) refl
  where
    go : (a : Result Date CodeRefusal) → date_answer n ≡ a
        → unpacked_date (packed_date a) (year_after a year₀) (month_after a month₀) (day_after a day₀) ≡ a
    go (Ok d) e = done_back (λ _. d) 0 (omega arith)
    go (Err r) e = let w = (date_answer_refused n r.number r.line).0 e in
        refused_back (λ _. date year₀ month₀ day₀)
        (tells r.number r.line (omega (arith, w.0)) (omega (arith, w.1)))

price_back : (a : Result (Maybe Price) CodeRefusal) (cents₀ line₀ : ℕ)
    → ((n l : ℕ) → a ≡ Err (refusal_of n l) → Tellable n l)
    → unpacked_price (packed_price a) (cents_after a cents₀) (line_after a line₀) ≡ a
price_back (Ok (Some p)) cents₀ line₀ range = done_back (λ n. price_told n p.cents p.line) priced (omega arith)
price_back (Ok None) cents₀ line₀ range = done_back (λ n. price_told n cents₀ line₀) 0 (omega arith)
price_back (Err r) cents₀ line₀ range =
    refused_back (λ n. price_told n cents₀ line₀) (range r.number r.line refl)

-- What is returned and stored for a price on a day tells its cents and the line of its term, that there is none, or the
-- refusal.
pub price_faithful : (terms : List ℕ) (model day cents₀ line₀ : ℕ)
    → let a = price_on_day terms model day in
    unpacked_price (packed_price a) (cents_after a cents₀) (line_after a line₀) ≡ a
price_faithful terms model day cents₀ line₀ = price_back (price_on_day terms model day) cents₀ line₀
    λ n l e. price_range ((price_refusals terms model day n l).0 e)

-- So it is with a price on a date.
pub date_price_faithful : (terms : List ℕ) (model year month day cents₀ line₀ : ℕ)
    → let a = price_on_date terms model year month day in
    unpacked_price (packed_price a) (cents_after a cents₀) (line_after a line₀) ≡ a
date_price_faithful terms model year month day cents₀ line₀ =
    price_back (price_on_date terms model year month day) cents₀ line₀
    λ n l e. date_price_range ((date_price_refusals terms model year month day n l).0 e)

-- What a report of prices returns tells how many bytes it has, or its refusal.
pub price_report_faithful : (terms : List ℕ) (model year month : ℕ) (old : List ℕ)
    → let a = answer 1 (price_report terms model year month) (length old) in unpacked (packed a) ≡ a
price_report_faithful terms model year month old =
    filling_back 1 (price_report_answers terms model year month old) (λ n l w. report_range w)
    (omega (arith, prices_written terms model year month))

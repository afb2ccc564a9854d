-- Every answer as the numbers that cross to C: the one returned, and those stored where the caller says. What a caller
-- makes of them is in Unpacked.
use Rattle.std.specs.Prelude.{◌≡◌, ℕ, suc, ◌+◌, ◌*◌, cond, Option, Some, None, Result, Ok, Err}
use Rattle.language.specs.declared.Refusal.{Refusal}
use Rattle.language.specs.Limits.{spent_stop, deep_stop, full_stop}
use Rattle.language.specs.Verdict as verdicts
use Rattle.language.specs.Verdict.{accepted, refused as not_accepted}
use Rattle.language.specs.State.{Value as Meaning, null, truth, object, raised, spent, deep, full, stuck}
use Rattle.language.specs.Store.{Outcome, gave, ended, Answer, refused, ran}
use Rattle.fleet.specs.declared.Labels.{Labels}
use Rattle.fleet.specs.declared.Fault.{Fault}
use Rattle.prices.specs.declared.Date.{Date}
use Rattle.prices.specs.declared.Price.{Price}

-- One number holds two words of 32 bits: of a refusal, its number and its line.
abbrev pub word : ℕ
word = 4294967296

abbrev pub refusal : ℕ → ℕ → ℕ
refusal number line = number * word + line

-- What is returned of an answer: a number of what was done, or the refusal.
abbrev pub packed_by : {A : Type 0} → (A → ℕ) → Result A Refusal → ℕ
packed_by number_of (Ok a) = number_of a
packed_by number_of (Err r) = refusal r.number r.line

-- What is stored of it: a number of what was done; else what was there before.
abbrev pub stored_by : {A : Type 0} → (A → ℕ) → Result A Refusal → ℕ → ℕ
stored_by number_of (Ok a) before = number_of a
stored_by number_of (Err r) before = before

-- ---- rows or bytes written: how many, or a refusal

abbrev pub packed : Result ℕ Refusal → ℕ
packed a = packed_by (λ n. n) a

-- ---- the verdict: 0 accepted, or a refusal

abbrev pub packed_verdict : verdicts.Verdict → ℕ
packed_verdict accepted = 0
packed_verdict (not_accepted number line) = refusal number line

-- ---- a run: 0 with kind and content of its value stored, an exception, a stop, or a refusal

-- The number that an exception stands under; the exception itself is where a refusal has its line.
abbrev pub exception : ℕ
exception = 1000

-- The kinds of values, and what a value has as its content: a bool 0 or 1, an object its number from 1.
abbrev pub null_kind : ℕ
null_kind = 0

abbrev pub bool_kind : ℕ
bool_kind = 1

abbrev pub object_kind : ℕ
object_kind = 2

abbrev pub kind : Meaning → ℕ
kind null = null_kind
kind (truth b) = bool_kind
kind (object j) = object_kind

abbrev pub content : Meaning → ℕ
content null = 0
content (truth b) = cond b 1 0
content (object j) = suc j

-- Stuck has the number of a value; no run of an accepted program ends so.
abbrev pub packed_outcome : Outcome → ℕ
packed_outcome (gave v) = 0
packed_outcome (ended (raised n)) = refusal exception n
packed_outcome (ended spent) = refusal spent_stop 0
packed_outcome (ended deep) = refusal deep_stop 0
packed_outcome (ended full) = refusal full_stop 0
packed_outcome (ended stuck) = 0

abbrev pub packed_answer : Answer → ℕ
packed_answer (refused number line) = refusal number line
packed_answer (ran o steps objects changes) = packed_outcome o

-- What kind and content are afterwards: those of the value in which the run ended; else what they were.
abbrev pub kind_of_outcome : Outcome → ℕ → ℕ
kind_of_outcome (gave v) before = kind v
kind_of_outcome (ended x) before = before

abbrev pub kind_after : Answer → ℕ → ℕ
kind_after (refused number line) before = before
kind_after (ran o steps objects changes) before = kind_of_outcome o before

abbrev pub content_of_outcome : Outcome → ℕ → ℕ
content_of_outcome (gave v) before = content v
content_of_outcome (ended x) before = before

abbrev pub content_after : Answer → ℕ → ℕ
content_after (refused number line) before = before
content_after (ran o steps objects changes) before = content_of_outcome o before

-- What the three counts are afterwards: those of the run; of a refused one, what they were.
abbrev pub steps_after : Answer → ℕ → ℕ
steps_after (refused number line) before = before
steps_after (ran o steps objects changes) before = steps

abbrev pub objects_after : Answer → ℕ → ℕ
objects_after (refused number line) before = before
objects_after (ran o steps objects changes) before = objects

abbrev pub changes_after : Answer → ℕ → ℕ
changes_after (refused number line) before = before
changes_after (ran o steps objects changes) before = changes

-- ---- labels of a run: 0 with both counts stored, or a refusal

abbrev pub packed_count : Result Labels Refusal → ℕ
packed_count a = packed_by (λ labels. 0) a

abbrev pub printed_after : Result Labels Refusal → ℕ → ℕ
printed_after a before = stored_by (λ (labels : Labels). labels.printed) a before

abbrev pub spoiled_after : Result Labels Refusal → ℕ → ℕ
spoiled_after a before = stored_by (λ (labels : Labels). labels.spoiled) a before

-- ---- a report: 0 and how many bytes were written, or a refusal's number and its place

abbrev pub report_number : Result ℕ Fault → ℕ
report_number (Ok bytes) = 0
report_number (Err f) = f.number

abbrev pub report_told : Result ℕ Fault → ℕ
report_told (Ok bytes) = bytes
report_told (Err f) = f.place

-- ---- the calendar: a day's number, or a refusal; 0 with the three numbers of a date stored, or a refusal

abbrev pub packed_day : Result ℕ Refusal → ℕ
packed_day a = packed a

abbrev pub packed_date : Result Date Refusal → ℕ
packed_date a = packed_by (λ date. 0) a

abbrev pub year_after : Result Date Refusal → ℕ → ℕ
year_after a before = stored_by (λ (date : Date). date.year) a before

abbrev pub month_after : Result Date Refusal → ℕ → ℕ
month_after a before = stored_by (λ (date : Date). date.month) a before

abbrev pub day_after : Result Date Refusal → ℕ → ℕ
day_after a before = stored_by (λ (date : Date). date.day) a before

-- ---- a price: 1 with its cents and its term's line stored, 0 where there is none, or a refusal

abbrev pub priced : ℕ
priced = 1

abbrev pub is_priced : Option Price → ℕ
is_priced (Some price) = priced
is_priced None = 0

abbrev pub packed_price : Result (Option Price) Refusal → ℕ
packed_price a = packed_by is_priced a

abbrev pub cents_after : Result (Option Price) Refusal → ℕ → ℕ
cents_after (Ok (Some price)) before = price.cents
cents_after (Ok None) before = before
cents_after (Err r) before = before

abbrev pub line_after : Result (Option Price) Refusal → ℕ → ℕ
line_after (Ok (Some price)) before = price.line
line_after (Ok None) before = before
line_after (Err r) before = before

-- The answer's number, with what cents and line were before and are afterwards.
abbrev pub TellsPrice : Result (Option Price) Refusal → ℕ → ℕ → ℕ → ℕ → ℕ → Type 0
TellsPrice a number cents₀ cents line₀ line =
    (number ≡ packed_price a) × ((cents ≡ cents_after a cents₀) × (line ≡ line_after a line₀))

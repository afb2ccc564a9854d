-- What the numbers mean that cross to C: the way back from those of Packed to the answer. A caller sees the number that is
-- returned and what is stored afterwards; where a service stores nothing, what the caller had there before. The comments
-- of include/fickle.h say these functions in words, and Faithful proves that each gives back every answer of its service.
use Rattle.std.specs.Prelude.{ℕ, zero, suc, ◌/◌, ◌%◌, cond, eqb, Option, Some, None, Result, Ok, Err}
use Rattle.language.specs.Refusals.{refusal as refusal_of}
use Rattle.language.specs.declared.Refusal.{Refusal}
use Rattle.language.specs.Limits.{spent_stop, deep_stop, full_stop}
use Rattle.language.specs.Verdict.{Verdict, accepted, refused as not_accepted}
use Rattle.language.specs.State.{Value, null, truth, object, raised, spent, deep, full}
use Rattle.language.specs.Store.{gave, ended, Answer, refused, ran}
use Rattle.fleet.specs.Counts.{labels}
use Rattle.fleet.specs.Ranking.{fault}
use Rattle.fleet.specs.declared.Labels.{Labels}
use Rattle.fleet.specs.declared.Fault.{Fault}
use Rattle.prices.specs.Calendar.{date}
use Rattle.prices.specs.declared.Date.{Date}
use Rattle.prices.specs.declared.Price.{Price}
use Rattle.packing.specs.Packed.{word, exception, null_kind, bool_kind, priced}

-- The two words of a number: FICKLE_NUMBER and FICKLE_LINE.
abbrev pub number_in : ℕ → ℕ
number_in w = w / word

abbrev pub line_in : ℕ → ℕ
line_in w = w % word

-- Where the number is 0, the second word is a result; else the two are a refusal's number and line, or another way to
-- end without a result.
abbrev pub by_number : {A : Type 0} → (ℕ → A) → (ℕ → ℕ → A) → ℕ → A
by_number result refusal w =
    cond (eqb (number_in w) 0) (result (line_in w)) (refusal (number_in w) (line_in w))

-- What was done, where the number is 0; else the refusal.
abbrev pub done_or_refused : {A : Type 0} → (ℕ → A) → ℕ → Result A Refusal
done_or_refused done w = by_number (λ n. Ok (done n)) (λ number line. Err (refusal_of number line)) w

-- Reader, writer, translator, report of prices: how many rows or bytes were written.
abbrev pub unpacked : ℕ → Result ℕ Refusal
unpacked w = done_or_refused (λ n. n) w

-- The check: accepted.
abbrev pub unpacked_verdict : ℕ → Verdict
unpacked_verdict w = by_number (λ _. accepted) not_accepted w

-- The object of a number; they count from 1.
abbrev pub object_numbered : ℕ → Value
object_numbered zero = null
object_numbered (suc j) = object j

-- A value by its kind and content.
abbrev pub unpacked_value : ℕ → ℕ → Value
unpacked_value kind content = cond (eqb kind null_kind) null
    (cond (eqb kind bool_kind) (truth (eqb content 1)) (object_numbered content))

-- A run with these counts that did not end in a value: an exception, a stop, or a refusal, which has no counts.
abbrev pub without_value : ℕ → ℕ → ℕ → ℕ → ℕ → Answer
without_value steps objects changes number line =
    cond (eqb number exception) (ran (ended (raised line)) steps objects changes)
    (cond (eqb number spent_stop) (ran (ended spent) steps objects changes)
    (cond (eqb number deep_stop) (ran (ended deep) steps objects changes)
    (cond (eqb number full_stop) (ran (ended full) steps objects changes)
    (refused number line))))

-- A run: the value by its kind and content, or another end.
abbrev pub unpacked_run : ℕ → ℕ → ℕ → ℕ → ℕ → ℕ → Answer
unpacked_run w kind content steps objects changes = by_number
    (λ _. ran (gave (unpacked_value kind content)) steps objects changes)
    (without_value steps objects changes)
    w

-- Labels of a run, from its store or from its plain run's: the two counts.
abbrev pub unpacked_count : ℕ → ℕ → ℕ → Result Labels Refusal
unpacked_count w printed spoiled = done_or_refused (λ _. labels printed spoiled) w

-- Reports over counted lines and over fleets. The number is returned alone; beside it is how many bytes were written,
-- or a refusal's place.
abbrev pub unpacked_report : ℕ → ℕ → Result ℕ Fault
unpacked_report number told = cond (eqb number 0) (Ok told) (Err (fault number told))

-- The day of a date: its number.
abbrev pub unpacked_day : ℕ → Result ℕ Refusal
unpacked_day w = unpacked w

-- The date of a day: year, month and day of the month.
abbrev pub unpacked_date : ℕ → ℕ → ℕ → ℕ → Result Date Refusal
unpacked_date w year month day = done_or_refused (λ _. date year month day) w

-- A price on a day or on a date: where the result is 1, the cents and the line of its term; else there is none.
abbrev pub price_told : ℕ → ℕ → ℕ → Option Price
price_told n cents line = cond (eqb n priced) (Some (record { cents = cents; line = line })) None

abbrev pub unpacked_price : ℕ → ℕ → ℕ → Result (Option Price) Refusal
unpacked_price w cents line = done_or_refused (λ n. price_told n cents line) w

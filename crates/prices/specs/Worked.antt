-- Worked examples of document 02, §11, by computation from the typed text of terms: prices, reports and refusals, and
-- days of the year 2000. (A space is typed for a tab. Later days are far to compute; the laws in proofs/ tell them.)
use Rattle.std.specs.Prelude.{◌≡◌, refl, List, [], ◌∷◌, map, ℕ, Option, Some, None, Result, Ok, Err}
use Prim.Native.String.{String}
use Rattle.language.specs.Decimals.{digit_of, scan, decimal_of, digits_in, digits}
use Rattle.language.specs.TextLines.{field, number_of}
use Rattle.language.specs.Results.{Checked, accept, refuse, bind_checked, require}
use Rattle.language.specs.WorkedPrograms.{typed}
use Rattle.language.specs.Refusals.{refusal}
use Rattle.language.specs.declared.Refusal.{Refusal}
use Rattle.prices.specs.declared.Price.{Price}
use Rattle.prices.specs.Calendar.{date, is_leap, days_in, next, date_of, day_from, day_of}
use Rattle.prices.specs.Terms.{ended, term_line, is_signed, terms_after}
use Rattle.prices.specs.Prices.{price, ruling, term_on, price_on_day, price_on_date}
use Rattle.prices.specs.Reports.{month_days, price_runs, run_line, run_lines, days_report, price_report}

-- Days and dates: the first day, a leap day and the day after it, the last day of the year, and what is no date.
worked_dates : map date_of (0 ∷ 30 ∷ 31 ∷ 59 ∷ 60 ∷ 365 ∷ 366 ∷ [])
    ≡ date 2000 1 1 ∷ date 2000 1 31 ∷ date 2000 2 1 ∷ date 2000 2 29 ∷ date 2000 3 1 ∷ date 2000 12 31
    ∷ date 2001 1 1 ∷ []
unfolding date_of next days_in is_leap
worked_dates = refl

worked_days : map day_of (date 2000 1 1 ∷ date 2000 2 29 ∷ date 2000 12 31 ∷ date 2001 1 1 ∷ [])
    ≡ accept 0 ∷ accept 59 ∷ accept 365 ∷ accept 366 ∷ []
unfolding day_of day_from next days_in is_leap
worked_days = refl

-- A question about a text of terms, and the reply.
pub data Question : Type 0 where
  on_day : ℕ → ℕ → Question
  on_date : ℕ → ℕ → ℕ → ℕ → Question
  in_month : ℕ → ℕ → ℕ → Question

pub data Reply : Type 0 where
  one_price : Result (Option Price) Refusal → Reply
  report : Checked (List ℕ) → Reply

abbrev answered : List ℕ → Question → Reply
answered text (on_day model day) = one_price (price_on_day text model day)
answered text (on_date model y m d) = one_price (price_on_date text model y m d)
answered text (in_month model y m) = report (price_report text model y m)

pub record Example : Type 0 where
  pub terms : String
  pub question : Question
  pub reply : Reply

abbrev asked : String → Question → Reply → Example
asked t q r = record { terms = t; question = q; reply = r }

abbrev no_price : Reply
no_price = one_price (Ok None)

abbrev costs : ℕ → ℕ → Reply
costs cents line = one_price (Ok (Some (price cents line)))

abbrev refused : ℕ → ℕ → Reply
refused number line = one_price (Err (refusal number line))

abbrev lines : String → Reply
lines text = report (accept (typed text))

abbrev two_terms : String
two_terms = "7 0 30 150 9\n7 10 20 99 3\n"

abbrev examples : List Example
examples =
    asked "" (on_day 7 0) no_price
    -- both edge days belong to the term, the days beside them do not
    ∷ asked "7 10 20 150 1\n" (on_day 7 10) (costs 150 1)
    ∷ asked "7 10 20 150 1\n" (on_day 7 20) (costs 150 1)
    ∷ asked "7 10 20 150 1\n" (on_day 7 9) no_price
    ∷ asked "7 10 20 150 1\n" (on_day 7 21) no_price
    -- other models
    ∷ asked "7 10 20 150 1\n8 10 20 99 2\n" (on_day 7 15) (costs 150 1)
    ∷ asked "7 10 20 150 1\n" (on_day 4294967295 15) no_price
    -- the highest signing number, on the first line or the last
    ∷ asked two_terms (on_day 7 15) (costs 150 1)
    ∷ asked "7 10 20 99 3\n7 0 30 150 9\n" (on_day 7 15) (costs 150 2)
    -- price 0 and signing number 0 are numbers like others
    ∷ asked "7 0 9 0 0\n" (on_day 7 3) (costs 0 1)
    ∷ asked "7 59 59 5 1\n" (on_date 7 2000 2 29) (costs 5 1)
    -- malformed lines: four numbers, six, no line feed, an empty line, a needless zero, a letter
    ∷ asked "7 0 9 5\n" (on_day 7 3) (refused 1 1)
    ∷ asked "7 0 9 5 1 1\n" (on_day 7 3) (refused 1 1)
    ∷ asked "7 0 9 5 1" (on_day 7 3) (refused 1 1)
    ∷ asked "7 0 9 5 1\n\n" (on_day 7 3) (refused 1 2)
    ∷ asked "7 0 9 05 1\n" (on_day 7 3) (refused 1 1)
    ∷ asked "C 7 0 9 5 1\n" (on_day 7 3) (refused 1 1)
    -- 23: the first day follows the last; a signing number of an earlier line, whatever its model
    ∷ asked "7 9 8 5 1\n" (on_day 7 9) (refused 23 1)
    ∷ asked "7 0 9 5 1\n8 20 30 6 1\n" (on_day 7 3) (refused 23 2)
    -- 24 after the terms' refusals
    ∷ asked "7 0 9 5 1\n" (on_day 7 65536) (refused 24 0)
    ∷ asked "7 0\n" (on_day 7 65536) (refused 1 1)
    -- reports: a later signature cuts the month in three; an earlier one, hidden, leaves no trace; neighbours of two
    -- terms with one price are joined, and a day without a term parts them; the month's days only
    ∷ asked "7 0 30 5 1\n7 10 12 6 2\n" (in_month 7 2000 1) (lines "0 9 5\n10 12 6\n13 30 5\n")
    ∷ asked two_terms (in_month 7 2000 1) (lines "0 30 150\n")
    ∷ asked "7 0 9 5 1\n7 10 30 5 2\n" (in_month 7 2000 1) (lines "0 30 5\n")
    ∷ asked "7 0 9 5 1\n7 11 30 5 2\n" (in_month 7 2000 1) (lines "0 9 5\n11 30 5\n")
    ∷ asked "7 0 1000 5 1\n" (in_month 7 2000 2) (lines "31 59 5\n")
    ∷ asked "8 0 30 5 1\n" (in_month 7 2000 1) (lines "")
    ∷ asked "7 5 4 1 1\n" (in_month 7 2000 13) (report (refuse 23 1))
    ∷ []

worked : map (λ e. answered (typed e.terms) e.question) examples ≡ map (λ e. e.reply) examples
unfolding typed digit_of scan decimal_of digits_in digits field number_of bind_checked require is_leap days_in
    next date_of day_from day_of ended term_line is_signed terms_after ruling term_on month_days price_runs
    run_line run_lines days_report
worked = refl

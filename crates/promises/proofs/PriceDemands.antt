-- The demands on price terms (document 02, §11), over texts of terms as bytes: the definitions that the services'
-- contracts cite. The words are in PriceWords; those on days and dates are in CalendarDemands. The proofs are in the
-- files cited.
use mathlib.Core.Path.{◌≡◌}
use mathlib.Core.Logic.{◌↔◌, ◌≢◌}
use Prim.Native.Nat.{ℕ, suc, ◌+◌, ◌≤◌, ◌<◌}
use mathlib.Core.List.{List, [], ◌∷◌, ◌++◌}
use mathlib.Core.Option.{Option, none, some}
use lib.ListN.{length}
use Rattle.std.specs.Prelude.{Some, None, Ok, Err}
use Rattle.prices.specs.Prices.{price}
use Rattle.language.specs.Refusals.{refusal}
use Rattle.language.specs.Filling.{answer, buffer}
use Rattle.language.specs.Results.{accept, refuse}
use Rattle.language.specs.WellFormed.{Each}
use Rattle.prices.specs.Calendar.{date, date_of, day_of}
use Rattle.prices.specs.Terms.{Term, term_line, terms_of}
use Rattle.prices.specs.Prices.{price_on_day, price_on_date}
use Rattle.prices.specs.Reports.{Days, month_days, PriceRun, price_runs, cents_on, run_line, run_lines}
use Rattle.prices.specs.Reports.{price_report}
use Rattle.prices.proofs.Terms.{terms_few}
use Rattle.promises.specs.Listed.{ListedFilling}
use Rattle.promises.specs.PriceWords.{largest_day, term_text, TermsOf, BeginsWithTerm, TermsRefusal}
use Rattle.promises.specs.PriceWords.{HoldsOn, DatePriceRefusal}
use Rattle.promises.specs.PriceWords.{PricedBy, NoneHolds, PriceRefusal, SignedNext, RunsOf}
use Rattle.promises.specs.PriceWords.{ReportOfMonth}
use Rattle.promises.specs.PriceWords.{ReportRefusal, RunWritable, BeginsWithRun, ReadsAs}
use Rattle.promises.proofs.prices.TermLines.{malformed_lines}
use Rattle.promises.proofs.prices.TermsRead.{terms_accepted, terms_refused, refused_early}
use Rattle.promises.proofs.prices.PricesHighest.{priced_by, unpriced, price_refused, price_of_date}
use Rattle.promises.proofs.prices.PricesHighest.{price_of_no_date, date_price_refused}
use Rattle.promises.proofs.prices.PricesHighest.{cents_priced, cents_unpriced}
use Rattle.promises.proofs.prices.NewTerms.{one_term_more, new_price, new_cents, same_price}
use Rattle.promises.proofs.prices.NewTerms.{same_cents}
use Rattle.promises.proofs.prices.NewTerms.{same_report}
use Rattle.promises.proofs.prices.PriceRuns.{runs_are}
use Rattle.promises.proofs.prices.PriceReports.{report_is, report_is_refused, report_listed, run_read}
use Rattle.promises.proofs.prices.PriceReports.{report_reads, runs_writable}
use Rattle.promises.proofs.prices.PriceReports.{runs_told}

-- ---- Terms as text

-- A text is accepted with terms exactly if it is their lines one after another, their numbers are at most 65,535, no
-- first day follows its last, they are on lines 1, 2, … in order, and no signing number occurs twice, whatever the
-- models.
pub terms_exact : (text : List ℕ) (ts : List Term) → (terms_of text ≡ accept ts) ↔ TermsOf text ts
terms_exact = terms_accepted

-- A text is refused exactly on the first line that is not a term's, with 1; or whose first day follows its last, with
-- 23; or whose signing number an earlier line has, of any model, with 23.
pub terms_refusals : (text : List ℕ) (n k : ℕ) → (terms_of text ≡ refuse n k) ↔ TermsRefusal text n k
terms_refusals = terms_refused

-- A line is malformed exactly if the text does not begin with five decimals of at most 65,535, tabs between, and a line
-- feed.
pub malformed_exact : (s : List ℕ) → (term_line s ≡ None) ↔ (¬ BeginsWithTerm s)
malformed_exact = malformed_lines

-- No text has more than 65,536 terms, and none is refused on a line after 65,537.
pub terms_at_most : (text : List ℕ) (ts : List Term) → terms_of text ≡ accept ts → length ts ≤ 65536
terms_at_most = terms_few

pub refused_at_most : (text : List ℕ) (n k : ℕ) → terms_of text ≡ refuse n k → k ≤ 65537
refused_at_most = refused_early

-- ---- Prices

-- Where a text has terms, a model has a price on a day, with the line of its term, exactly if the day is at most 65,535
-- and a term with that price on that line holds for the model on the day, and no term that holds then has a higher
-- signing number.
pub price_is_highest : (text : List ℕ) (model day : ℕ) (ts : List Term) → terms_of text ≡ accept ts
    → (c l : ℕ)
    → (price_on_day text model day ≡ Ok (Some (price c l))) ↔ ((day ≤ largest_day) × PricedBy model day ts c l)
price_is_highest = priced_by

-- It has none exactly if the day is at most 65,535 and no term holds for the model on the day.
pub price_is_none : (text : List ℕ) (model day : ℕ) (ts : List Term) → terms_of text ≡ accept ts
    → (price_on_day text model day ≡ Ok None) ↔ ((day ≤ largest_day) × NoneHolds model day ts)
price_is_none = unpriced

-- A price is refused exactly as the text is; else with 24 on no line, exactly if the day is past 65,535.
pub price_refusals : (text : List ℕ) (model day n k : ℕ)
    → (price_on_day text model day ≡ Err (refusal n k)) ↔ PriceRefusal text day n k
price_refusals = price_refused

-- The price on a date is that on the day with the date; where no day has it, it is refused as day 65,536 is, with the
-- text's refusal or 24.
pub price_by_date : (text : List ℕ) (model year month day n : ℕ) → day_of (date year month day) ≡ accept n
    → price_on_date text model year month day ≡ price_on_day text model n
price_by_date = price_of_date

pub price_without_day : (text : List ℕ) (model year month day : ℕ)
    → ((n : ℕ) → n ≤ largest_day → date_of n ≢ date year month day)
    → price_on_date text model year month day ≡ price_on_day text model (suc largest_day)
price_without_day = price_of_no_date

-- So a price on a date is refused exactly as the text is; else with 24 on no line, exactly if no day from 0 to 65,535
-- has the date.
pub date_price_refusals : (text : List ℕ) (model year month day n k : ℕ)
    → (price_on_date text model year month day ≡ Err (refusal n k))
    ↔ DatePriceRefusal text (date year month day) n k
date_price_refusals = date_price_refused

-- ---- One more term

-- Let a term be signed next after the terms of a text, with a signing number above all theirs. With its line at the end,
-- the text has one more term;
pub new_term : (text : List ℕ) (ts : List Term) → terms_of text ≡ accept ts → (t : Term) → SignedNext ts t
    → terms_of (text ++ term_text t) ≡ accept (ts ++ (t ∷ []))
new_term = one_term_more

-- where it holds, the price is that of this term;
pub new_term_price : (text : List ℕ) (ts : List Term) → terms_of text ≡ accept ts → (t : Term)
    → SignedNext ts t
    → (model day : ℕ) → HoldsOn model day t
    → price_on_day (text ++ term_text t) model day ≡ Ok (Some (price t.cents t.line))
new_term_price = new_price

pub new_term_cents : (text : List ℕ) (ts : List Term) → terms_of text ≡ accept ts → (t : Term)
    → SignedNext ts t
    → (model day : ℕ) → HoldsOn model day t → cents_on model (ts ++ (t ∷ [])) day ≡ some t.cents
new_term_cents = new_cents

-- for every other model and on every other day what is returned is what it was, refusals included;
pub old_prices : (text : List ℕ) (ts : List Term) → terms_of text ≡ accept ts → (t : Term) → SignedNext ts t
    → (model day : ℕ) → ¬ HoldsOn model day t
    → price_on_day (text ++ term_text t) model day ≡ price_on_day text model day
old_prices = same_price

pub old_cents : (text : List ℕ) (ts : List Term) → terms_of text ≡ accept ts → (t : Term) → SignedNext ts t
    → (model day : ℕ) → ¬ HoldsOn model day t → cents_on model (ts ++ (t ∷ [])) day ≡ cents_on model ts day
old_cents = same_cents

-- and so is the report of a month on none of whose days it holds for the model.
pub old_reports : (text : List ℕ) (ts : List Term) → terms_of text ≡ accept ts → (t : Term) → SignedNext ts t
    → (model year month : ℕ)
    → ((days : Days) → month_days year month ≡ accept days
    → (day : ℕ) → days.first ≤ day → day < days.first + days.count → ¬ HoldsOn model day t)
    → price_report (text ++ term_text t) model year month ≡ price_report text model year month
old_reports = same_report

-- ---- The report

-- Given each day's price, the runs of some days are exactly those that are in order within the days, each with one
-- price on all its days, that have every one of the days with a price, and of which no two meet with the same price.
pub runs_exact : (price : ℕ → Option ℕ) (first count : ℕ) (rs : List PriceRun)
    → (price_runs price first count ≡ rs) ↔ RunsOf price first (first + count) rs
runs_exact = runs_are

-- The prices by which a report's runs are made are those that are returned for the days.
pub report_prices : (text : List ℕ) (model day : ℕ) (ts : List Term) → terms_of text ≡ accept ts
    → day ≤ largest_day → (c : ℕ)
    → (cents_on model ts day ≡ some c) ↔ ((l : ℕ) × (price_on_day text model day ≡ Ok (Some (price c l))))
report_prices = cents_priced

pub report_gaps : (text : List ℕ) (model day : ℕ) (ts : List Term) → terms_of text ≡ accept ts
    → day ≤ largest_day → (cents_on model ts day ≡ none) ↔ (price_on_day text model day ≡ Ok None)
report_gaps = cents_unpriced

-- Bytes are a model's report of a month exactly if they are the lines of the runs of the month's days by its prices.
pub report_of_month : (text : List ℕ) (model year month : ℕ) (bytes : List ℕ)
    → (price_report text model year month ≡ accept bytes) ↔ ReportOfMonth text model year month bytes
report_of_month = report_is

-- A report is refused exactly as the text is; else with 24 on no line, exactly if there is no such month or one of its
-- dates is out of range.
pub price_report_refusals : (text : List ℕ) (model year month n k : ℕ)
    → (price_report text model year month ≡ refuse n k) ↔ ReportRefusal text year month n k
price_report_refusals = report_is_refused

-- The service. Whatever the text, the model and the month, and whatever is lent for the bytes, it returns how many
-- bytes it wrote and leaves what was there past them; or it leaves all that was lent unchanged and refuses as listed,
-- with 13 on no line where the report does not fit.
pub price_report_answers : (text : List ℕ) (model year month : ℕ) (old : List ℕ)
    → ListedFilling 1 (ReportRefusal text year month) (price_report text model year month) old
    (answer 1 (price_report text model year month) (length old))
    (buffer (price_report text model year month) old)
price_report_answers = report_listed

-- A run's line is read back: its three numbers, as a term's line is read, then a line feed, and then what follows.
pub run_line_read : (r : PriceRun) (rest : List ℕ) → RunWritable r → BeginsWithRun (run_line r ++ rest) r rest
run_line_read = run_read

-- The bytes of a report are read back as its runs, in their order and with nothing between or after them.
pub report_read : (text : List ℕ) (model year month : ℕ) (bytes : List ℕ)
    → (w : ReportOfMonth text model year month bytes) → ReadsAs bytes w.runs
report_read = report_reads

-- The numbers of a report's runs are at most 65,535, and different runs with such numbers have different lines.
pub report_readable : (text : List ℕ) (model year month : ℕ) (bytes : List ℕ)
    → (w : ReportOfMonth text model year month bytes) → Each RunWritable w.runs
report_readable = runs_writable

pub lines_tell_runs : (rs qs : List PriceRun) → Each RunWritable rs → Each RunWritable qs
    → run_lines rs ≡ run_lines qs → rs ≡ qs
lines_tell_runs = runs_told

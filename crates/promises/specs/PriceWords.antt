-- The words in which the demands on price terms are stated (document 02, §11): the text of terms, what terms a text may
-- have, the term that is highest, the runs of days of a report, and what is refused.
use Rattle.std.specs.Prelude.{Some}
use Rattle.std.specs.Prelude.{◌≡◌, ◌↔◌, ◌≢◌, ℕ, suc, ◌+◌, ◌≤◌, ◌<◌, List, [], ◌∷◌, ◌++◌, length, drop}
use Rattle.std.proofs.Math.Option.{Option, some}
use Rattle.language.specs.Limits.{line_refusal, no_line}
use Rattle.language.specs.Lists.{nth}
use Rattle.language.specs.Decimals.{digits}
use Rattle.language.specs.TextLines.{tab, line_feed}
use Rattle.language.specs.WellFormed.{Each}
use Rattle.fields.specs.Places.{number_at}
use Rattle.prices.specs.Calendar.{date_of}
use Rattle.prices.specs.declared.Date.{Date}
use Rattle.prices.specs.Dates.{MonthWithoutDays}
use Rattle.prices.specs.Terms.{Term, first_number}
use Rattle.prices.specs.Reports.{Days, PriceRun, cents_on, run_lines}

-- The largest number on a line, the last day, and the refusals of a term and of a day, date or month. They are written
-- out here, so that the demands do not follow the definitions if those have others.
abbrev pub largest_number : ℕ
largest_number = 65535

abbrev pub largest_day : ℕ
largest_day = 65535

abbrev pub bad_term : ℕ
bad_term = 23

abbrev pub bad_date : ℕ
bad_date = 24

-- A term's line: five decimals, tabs between, and a line feed. The text of terms is their lines one after another.
unfoldable pub term_text : Term → List ℕ
term_text t =
    digits t.model ++ (tab ∷ (digits t.first ++ (tab ∷ (digits t.last
    ++ (tab ∷ (digits t.cents ++ (tab ∷ (digits t.signing ++ (line_feed ∷ [])))))))))

unfoldable pub terms_text : List Term → List ℕ
terms_text [] = []
terms_text (t ∷ ts) = term_text t ++ terms_text ts

-- The five numbers of a term are numbers that a line can have.
pub record Writable (t : Term) : Type 0 where
  pub model_to : t.model ≤ largest_number
  pub first_to : t.first ≤ largest_number
  pub last_to : t.last ≤ largest_number
  pub cents_to : t.cents ≤ largest_number
  pub signing_to : t.signing ≤ largest_number

-- The terms that a text can have: their numbers are in range, no term's first day follows its last, they are on lines
-- 1, 2, … in order, and no two of them have the same signing number, whatever their models.
pub record ProperTerms (ts : List Term) : Type 0 where
  pub writable : (i : ℕ) (t : Term) → nth ts i ≡ some t → Writable t
  pub days_in_order : (i : ℕ) (t : Term) → nth ts i ≡ some t → t.first ≤ t.last
  pub on_line : (i : ℕ) (t : Term) → nth ts i ≡ some t → t.line ≡ suc i
  pub signed_once : (i j : ℕ) (t u : Term) → nth ts i ≡ some t → nth ts j ≡ some u → t.signing ≡ u.signing
      → i ≡ j

-- A text has these terms.
pub record TermsOf (text : List ℕ) (ts : List Term) : Type 0 where
  pub written : text ≡ terms_text ts
  pub proper : ProperTerms ts

-- A text begins with the line of a term whose numbers are in range.
pub record BeginsWithTerm (s : List ℕ) : Type 0 where
  pub term : Term
  pub rest : List ℕ
  pub writable : Writable term
  pub written : s ≡ term_text term ++ rest

-- One of these terms has the signing number.
pub record Signed (n : ℕ) (ts : List Term) : Type 0 where
  pub place : ℕ
  pub term : Term
  pub there : nth ts place ≡ some term
  pub signing_is : term.signing ≡ n

-- The text of terms is refused on the line after some that are terms: with 1 where there is one more line, or part of
-- one, and it is not a term's; with 23 where it is a term whose first day follows its last; with 23 where it is a term
-- whose signing number an earlier line has, of any model.
pub data TermsRefusal (text : List ℕ) : ℕ → ℕ → Type 0 where
  malformed : (ts : List Term) (rest : List ℕ) → ProperTerms ts → text ≡ terms_text ts ++ rest → rest ≢ []
      → ¬ BeginsWithTerm rest → TermsRefusal text line_refusal (suc (length ts))
  ends_early : (ts : List Term) (t : Term) (rest : List ℕ) → ProperTerms ts → Writable t
      → text ≡ terms_text ts ++ (term_text t ++ rest) → t.last < t.first
      → TermsRefusal text bad_term (suc (length ts))
  signed_again : (ts : List Term) (t : Term) (rest : List ℕ) → ProperTerms ts → Writable t
      → text ≡ terms_text ts ++ (term_text t ++ rest) → Signed t.signing ts
      → TermsRefusal text bad_term (suc (length ts))

-- The term holds for the model on the day: both edge days belong to it.
pub record HoldsOn (model day : ℕ) (t : Term) : Type 0 where
  pub of_model : t.model ≡ model
  pub from : t.first ≤ day
  pub to : day ≤ t.last

-- The term is one of these and holds, and none of them that holds has a higher signing number.
pub record HighestTerm (model day : ℕ) (ts : List Term) (t : Term) : Type 0 where
  pub place : ℕ
  pub there : nth ts place ≡ some t
  pub holds_then : HoldsOn model day t
  pub highest : (i : ℕ) (u : Term) → nth ts i ≡ some u → HoldsOn model day u → u.signing ≤ t.signing

-- The highest term has this price, and is on this line.
pub record PricedBy (model day : ℕ) (ts : List Term) (cents line : ℕ) : Type 0 where
  pub term : Term
  pub is_highest : HighestTerm model day ts term
  pub cents_are : term.cents ≡ cents
  pub line_is : term.line ≡ line

-- None of the terms holds.
abbrev pub NoneHolds : ℕ → ℕ → List Term → Type 0
NoneHolds model day ts = (i : ℕ) (t : Term) → nth ts i ≡ some t → ¬ HoldsOn model day t

-- A price is refused as the text is; else with 24 on no line, where there is no such day.
pub data PriceRefusal (text : List ℕ) (day : ℕ) : ℕ → ℕ → Type 0 where
  price_by_text : {n k : ℕ} → TermsRefusal text n k → PriceRefusal text day n k
  no_such_day : (ts : List Term) → TermsOf text ts → largest_day < day
      → PriceRefusal text day bad_date no_line

-- A price on a date is refused as the text is; else with 24 on no line, where no day has the date.
pub data DatePriceRefusal (text : List ℕ) (d : Date) : ℕ → ℕ → Type 0 where
  date_price_by_text : {n k : ℕ} → TermsRefusal text n k → DatePriceRefusal text d n k
  no_such_date : (ts : List Term) → TermsOf text ts → ((n : ℕ) → n ≤ largest_day → date_of n ≢ d)
      → DatePriceRefusal text d bad_date no_line

-- A term that may be signed next, after these: its numbers are in range, its first day does not follow its last, it is
-- on the next line, and its signing number is higher than all theirs.
pub record SignedNext (ts : List Term) (t : Term) : Type 0 where
  pub writable : Writable t
  pub days_in_order : t.first ≤ t.last
  pub on_line : t.line ≡ suc (length ts)
  pub above_all : (i : ℕ) (u : Term) → nth ts i ≡ some u → u.signing < t.signing

-- The runs are in order, from day `first` on and before day `end`.
pub data InOrder (end : ℕ) : ℕ → List PriceRun → Type 0 where
  no_more_runs : {first : ℕ} → InOrder end first []
  run_then : {first : ℕ} {r : PriceRun} {rs : List PriceRun} → first ≤ r.from → r.from ≤ r.to → r.to < end
      → InOrder end (suc r.to) rs → InOrder end first (r ∷ rs)

-- One of the runs has the day.
pub data InRun (day : ℕ) : List PriceRun → Type 0 where
  in_this : {r : PriceRun} {rs : List PriceRun} → r.from ≤ day → day ≤ r.to → InRun day (r ∷ rs)
  in_later : {r : PriceRun} {rs : List PriceRun} → InRun day rs → InRun day (r ∷ rs)

-- Where a run begins on the day after the one before it ends, their prices differ.
pub data Parted : List PriceRun → Type 0 where
  no_run : Parted []
  one_run : {r : PriceRun} → Parted (r ∷ [])
  two_runs : {r s : PriceRun} {rs : List PriceRun} → (s.from ≡ suc r.to → r.cents ≢ s.cents)
      → Parted (s ∷ rs) → Parted (r ∷ s ∷ rs)

-- Every day of the run has the run's price.
abbrev pub HasPrice : (ℕ → Option ℕ) → PriceRun → Type 0
HasPrice price r = (day : ℕ) → r.from ≤ day → day ≤ r.to → price day ≡ some r.cents

-- The runs of the days from `first` on and before `end`: they are in order within those days, every day of a run has
-- its price, every one of the days with a price is in a run, and neighbours are parted.
pub record RunsOf (price : ℕ → Option ℕ) (first end : ℕ) (rs : List PriceRun) : Type 0 where
  pub in_order : InOrder end first rs
  pub priced : Each (HasPrice price) rs
  pub covered : (day c : ℕ) → first ≤ day → day < end → price day ≡ some c → InRun day rs
  pub parted : Parted rs

-- The days are those of the month: there are some, none is past the last day, and a day is one of them exactly if its
-- date has the year and the month.
pub record DaysOf (year month : ℕ) (days : Days) : Type 0 where
  pub some_days : 0 < days.count
  pub in_range : days.first + days.count ≤ suc largest_day
  pub exactly : (n : ℕ) → ((days.first ≤ n) × (n < days.first + days.count))
      ↔ (((date_of n).year ≡ year) × ((date_of n).month ≡ month))

-- Bytes are the report of a model and a month: the text has terms, the month has days, and the bytes are the lines of
-- the runs of those days by the model's prices.
pub record ReportOfMonth (text : List ℕ) (model year month : ℕ) (bytes : List ℕ) : Type 0 where
  pub terms : List Term
  pub days : Days
  pub runs : List PriceRun
  pub terms_of_text : TermsOf text terms
  pub days_of_month : DaysOf year month days
  pub runs_of_days : RunsOf (cents_on model terms) days.first (days.first + days.count) runs
  pub written : bytes ≡ run_lines runs

-- A report is refused as the text is; else with 24 on no line, where there is no such month or one of its dates is out
-- of range.
pub data ReportRefusal (text : List ℕ) (year month : ℕ) : ℕ → ℕ → Type 0 where
  report_by_text : {n k : ℕ} → TermsRefusal text n k → ReportRefusal text year month n k
  no_such_month : (ts : List Term) → TermsOf text ts → MonthWithoutDays year month
      → ReportRefusal text year month bad_date no_line

-- The three numbers of a run are numbers that a line can have.
pub record RunWritable (r : PriceRun) : Type 0 where
  pub from_to : r.from ≤ largest_number
  pub to_to : r.to ≤ largest_number
  pub cents_to : r.cents ≤ largest_number

-- A text begins with three numbers, read as those of a term's line are, then a line feed, and then the rest.
pub record BeginsWithRun (s : List ℕ) (r : PriceRun) (rest : List ℕ) : Type 0 where
  pub after_from : ℕ
  pub after_to : ℕ
  pub after_cents : ℕ
  pub from_read : first_number s ≡ Some (r.from, after_from)
  pub to_read : number_at after_from s ≡ Some (r.to, after_to)
  pub cents_read : number_at after_to s ≡ Some (r.cents, after_cents)
  pub ended : drop after_cents s ≡ line_feed ∷ rest

-- A text is the lines of these runs one after another, each read like a term's line, and nothing else.
pub data ReadsAs : List ℕ → List PriceRun → Type 0 where
  no_line_left : ReadsAs [] []
  run_line_then : {s rest : List ℕ} {r : PriceRun} {rs : List PriceRun} → BeginsWithRun s r rest
      → ReadsAs rest rs → ReadsAs s (r ∷ rs)

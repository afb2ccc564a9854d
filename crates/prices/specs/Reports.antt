-- The price report of a model and a month
-- (document 02, §11: "each run of days with one price as a line, first day, last day, price, written like a term, in
-- order of days, neighbours with equal price joined. Days without a term stand in no run; they part runs").
use Rattle.std.specs.Prelude.{◌&&◌, List, [], ◌∷◌, ◌++◌, ℕ, zero, suc, ◌-◌, eqb}
use Rattle.std.proofs.Math.Option.{Option, none, some}
use Rattle.language.specs.Decimals.{digits}
use Rattle.language.specs.Lists.{choice}
use Rattle.language.specs.TextLines.{tab, line_feed}
use Rattle.language.specs.Results.{Checked, accept, bind_checked}
use Rattle.prices.specs.Calendar.{date, days_in, day_of}
use Rattle.prices.specs.Terms.{Term, terms_of}
use Rattle.prices.specs.Prices.{ruling}

-- Consecutive days: the first, and how many there are.
pub record Days : Type 0 where
  pub first : ℕ
  pub count : ℕ

abbrev pub days_from : ℕ → ℕ → Days
days_from first count = record { first = first; count = count }

-- The days of a month, from its first to its last; 24 where one of the two is not in the calendar or range.
unfoldable pub month_days : ℕ → ℕ → Checked Days
month_days year month =
    bind_checked (day_of (date year month 1)) λ a.
    bind_checked (day_of (date year month (days_in year month))) λ b.
    accept (days_from a (suc b - a))

-- A run of days with one price.
pub record PriceRun : Type 0 where
  pub from : ℕ
  pub to : ℕ
  pub cents : ℕ

abbrev pub price_run : ℕ → ℕ → ℕ → PriceRun
price_run a b c = record { from = a; to = b; cents = c }

-- A day, with its price if it has one, before the runs of the days after it: it joins the first of them if that begins
-- on the next day and has the same price.
abbrev pub joined : ℕ → Option ℕ → List PriceRun → List PriceRun
joined day none rs = rs
joined day (some c) [] = price_run day day c ∷ []
joined day (some c) (r ∷ rs) = choice (eqb r.from (suc day) && eqb r.cents c)
    (λ _. price_run day r.to c ∷ rs)
    (λ _. price_run day day c ∷ r ∷ rs)

-- The runs of `count` days from a day on, given each day's price.
unfoldable pub price_runs : (ℕ → Option ℕ) → ℕ → ℕ → List PriceRun
price_runs price day zero = []
price_runs price day (suc count) = joined day (price day) (price_runs price (suc day) count)

-- A model's price on a day, if it has one.
abbrev pub cents_of : Option Term → Option ℕ
cents_of none = none
cents_of (some t) = some t.cents

abbrev pub cents_on : ℕ → List Term → ℕ → Option ℕ
cents_on model ts day = cents_of (ruling model day ts)

-- A run's line: three decimals, tabs between, and a line feed.
unfoldable pub run_line : PriceRun → List ℕ
run_line r = digits r.from ++ (tab ∷ (digits r.to ++ (tab ∷ (digits r.cents ++ (line_feed ∷ [])))))

unfoldable pub run_lines : List PriceRun → List ℕ
run_lines [] = []
run_lines (r ∷ rs) = run_line r ++ run_lines rs

-- The report of days that are known; the terms' refusal comes before that of the days.
unfoldable pub days_report : List ℕ → ℕ → Checked Days → Checked (List ℕ)
days_report text model days =
    bind_checked (terms_of text) λ ts.
    bind_checked days λ d.
    accept (run_lines (price_runs (cents_on model ts) d.first d.count))

-- The report of a month; 13 comes last, as for every service that fills a lent buffer.
abbrev pub price_report : List ℕ → ℕ → ℕ → ℕ → Checked (List ℕ)
price_report text model year month = days_report text model (month_days year month)

-- Prices in a table that has an entry for each of some consecutive days on which a term rules.
use Rattle.std.specs.Prelude.{◌≡◌, Bool, true, false, List, ℕ, ◌+◌, ◌*◌, ◌≤◌, ◌<◌, eqb, length, get_or, Option as Kept, Some, None}
use Rattle.std.proofs.Math.Option.{Option, none, some}
use Rattle.language.specs.Limits.{largest, no_line}
use Rattle.language.specs.Results.{Checked, accept, refuse}
use Rattle.language.specs.Refusals.{refusal}
use Rattle.language.specs.declared.Refusal.{Refusal}
use Rattle.terms.specs.Tables.{most_days}
use Rattle.terms.specs.declared.Entry.{Entry}
use Rattle.prices.specs.Calendar.{date_refusal}
use Rattle.prices.specs.Prices.{price}
use Rattle.prices.specs.Terms.{Term}
use Rattle.prices.specs.declared.Price.{Price}

-- The bytes of the longest report: a line for each day of the longest month, with three numbers of at most five digits.
abbrev pub most_report : ℕ
most_report = 18 * most_days

-- The cents of a day, by what is kept of its term.
abbrev pub cents_kept : Kept Entry → Option ℕ
cents_kept None = none
cents_kept (Some e) = some e.cents

-- The price and line of a day.
abbrev pub price_kept : Kept Entry → Kept Price
price_kept None = None
price_kept (Some e) = Some (price e.cents e.line)

-- A day has a term with these cents.
abbrev pub has_price : Kept Entry → ℕ → Bool
has_price None cents = false
has_price (Some e) cents = eqb e.cents cents

-- The table has these prices on `count` days from a day on.
pub record Priced (price : ℕ → Option ℕ) (day count : ℕ) (table : List (Kept Entry)) : Type 0 where
  pub long : length table ≡ most_days
  pub each : (i : ℕ) → i < count → price (day + i) ≡ cents_kept (get_or table i None)
  pub small : (i c : ℕ) → i < count → cents_kept (get_or table i None) ≡ some c → c ≤ largest

-- The days from place i to before place j of the table are a run: they have these cents, and the day at place j does not
-- go on with it.
pub record RunAt (table : List (Kept Entry)) (count cents i j : ℕ) : Type 0 where
  pub some_days : i < j
  pub within : j ≤ count
  pub one_price : (k : ℕ) → i ≤ k → k < j → has_price (get_or table k None) cents ≡ true
  pub ends : j < count → has_price (get_or table j None) cents ≡ false

-- The refusal of the terms, or that of a day where they are accepted.
abbrev pub unless_refused : Checked (List Term) → Refusal
unless_refused (accept ts) = refusal date_refusal no_line
unless_refused (refuse number line) = refusal number line

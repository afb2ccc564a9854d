-- What the two searches for a day's year and month find.
use Rattle.std.specs.Prelude.{Bool, true, false, ℕ, suc, ◌-◌, ◌≤◌, ◌<◌}
use Rattle.prices.specs.Calendar.{months}
use Rattle.prices.specs.Numbering.{year_start, month_start}

-- The years that the sum of the code is right for: 2000 to 2199. Of their multiples of 4 only 2100 is not a leap year.
abbrev pub most_years : ℕ
most_years = 200

-- A year that is not a leap year.
abbrev pub common_year : ℕ
common_year = 2001

-- A year that is a leap year or is not: the lengths of months depend on this alone.
abbrev pub year_like : Bool → ℕ
year_like true = 2000
year_like false = common_year

-- The year of a day, counted from 2000.
pub record YearOf (day y : ℕ) : Type 0 where
  pub few : y < most_years
  pub from : year_start y ≤ day
  pub to : day < year_start (suc y)

-- The month of the day that `rest` days of its year precede.
pub record MonthOf (year rest month : ℕ) : Type 0 where
  pub month_from : 1 ≤ month
  pub month_to : month ≤ months
  pub from : month_start year (month - 1) ≤ rest
  pub to : rest < month_start year month

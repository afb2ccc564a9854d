-- The number of a date, counted without listing days: the days of the years before it, those of the months before it in
-- its year, and those before it in its month.
use Rattle.std.specs.Prelude.{cond, ℕ, zero, suc, ◌+◌, ◌-◌}
use Rattle.prices.specs.Calendar.{Date, is_leap, days_in}

abbrev pub first_year : ℕ
first_year = 2000

-- The days of a year.
abbrev pub days_of_year : ℕ → ℕ
days_of_year year = cond (is_leap year) 366 365

-- The days of the first y years from 2000 on.
unfoldable pub year_start : ℕ → ℕ
year_start zero = 0
year_start (suc y) = year_start y + days_of_year (first_year + y)

-- The days of the first m months of a year.
unfoldable pub month_start : ℕ → ℕ → ℕ
month_start year zero = 0
month_start year (suc m) = month_start year m + days_in year (suc m)

unfoldable pub day_number : Date → ℕ
day_number d = year_start (d.year - first_year) + month_start d.year (d.month - 1) + (d.day - 1)

-- `calendar::find_month` meets its contract. Assumes nothing.
use Rattle.std.proofs.Common.{arith}
use Prim.Native.Nat.{◌+◌, ◌/◌}
use mathlib.Core.Path.{◌≡◌}
use Rattle.prices.specs.Calendar.{months}
use Rattle.calendar.specs.Found.{year_like}
use Rattle.calendar.proofs.Months.{month_guessed, month_after, months_most, next_month}
use Rattle.calendar.proofs.find_month.Goals.{else-month-lt-MONTHS-via-then-month-lt-MONTHS+else-month_start-rest, else-month-lt-MONTHS-via-else-month-lt-MONTHS}
use Rattle.calendar.proofs.find_month.Goals as goal

pub returns-then-month_start-rest : goal.returns-then-month_start-rest
returns-then-month_start-rest c = month_after _ c.args.rest c.if-month-lt-MONTHS.true
    (rw c.month_start.ensures at c.if-month_start-rest.true)

pub returns-else-month-lt-MONTHS : goal.returns-else-month-lt-MONTHS
returns-else-month-lt-MONTHS c =
    let r = c.args.rest in
    let y = year_like c.args.leap in
    month_guessed y r c.requires (elim c.else-month-lt-MONTHS.branch [
      | else-month-lt-MONTHS-via-then-month-lt-MONTHS+else-month_start-rest w ↦
          omega (arith, next_month y (r / 32 + 1))
      | else-month-lt-MONTHS-via-else-month-lt-MONTHS w ↦
          let e : r / 32 + 1 ≡ months = omega (arith, months_most y months) in rw e c.requires
    ])

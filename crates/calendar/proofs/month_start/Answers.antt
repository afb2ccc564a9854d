-- `calendar::month_start` meets its contract. Assumes nothing.
use Rattle.std.proofs.Common.{◌-◌, arith}
use Rattle.calendar.specs.Found.{common_year}
use Rattle.calendar.proofs.Months.{days_like, leap_year, months_most}
use Rattle.calendar.proofs.month_start.Goals.{else-leap-via-then-leap+else-month-ge3, else-leap-via-else-leap}
use Rattle.calendar.proofs.month_start.Goals as goal

pub overflow_add-result : goal.overflow_add-result
overflow_add-result c = omega (arith, months_most common_year (c.args.month - 1))

pub returns-then-month-ge3 : goal.returns-then-month-ge3
returns-then-month-ge3 c = rw c.if-leap.true (leap_year c.args.month c.days_before-days.ensures c.if-month-ge3.true)

pub returns-else-leap : goal.returns-else-leap
returns-else-leap c = elim c.else-leap.branch [
  | else-leap-via-then-leap+else-month-ge3 w ↦
      days_like c.args.leap c.args.month c.days_before-days.ensures (λ _. w.if-month-ge3.false)
  | else-leap-via-else-leap w ↦
      days_like c.args.leap c.args.month c.days_before-days.ensures (λ t. absurd (cc (t, w.if-leap.false)))
]

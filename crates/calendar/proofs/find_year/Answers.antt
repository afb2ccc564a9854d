-- `calendar::find_year` meets its contract. Assumes nothing.
use Rattle.calendar.proofs.Counting.{year_guessed, year_after}
use Rattle.calendar.proofs.find_year.Goals as goal

pub returns-then-day-year_start : goal.returns-then-day-year_start
returns-then-day-year_start c = year_guessed c.args.day c.requires (rw c.year_start.ensures at c.if-day-year_start.true)

pub returns-else-day-year_start : goal.returns-else-day-year_start
returns-else-day-year_start c = year_after c.args.day c.requires (rw c.year_start.ensures at c.if-day-year_start.false)

-- `calendar::year_start` meets its contract. Assumes nothing.
use Rattle.calendar.proofs.Counting.{years_to_2100, years_past_2100}
use Rattle.calendar.proofs.year_start.Goals as goal

pub returns-then-y-gt100 : goal.returns-then-y-gt100
returns-then-y-gt100 c = years_past_2100 c.args.y c.requires c.if-y-gt100.true

pub returns-else-y-gt100 : goal.returns-else-y-gt100
returns-else-y-gt100 c = years_to_2100 c.args.y c.if-y-gt100.false

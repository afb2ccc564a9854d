-- `calendar::days_before` meets its contract. Assumes nothing.
use Rattle.calendar.proofs.Months.{until_february, since_march}
use Rattle.calendar.proofs.days_before.Goals as goal

pub returns-then-month-lt3 : goal.returns-then-month-lt3
returns-then-month-lt3 c = until_february c.args.month c.requires.0 c.if-month-lt3.true

pub returns-else-month-lt3 : goal.returns-else-month-lt3
returns-else-month-lt3 c = since_march c.args.month c.if-month-lt3.false c.requires.1

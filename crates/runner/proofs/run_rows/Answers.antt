-- `runner::run_rows` meets its contract. Assumes nothing.
use Rattle.running.proofs.Running.{uneven, over}
use Rattle.runner.proofs.run_rows.Goals as goal

pub returns-then-rows-ne0 : goal.returns-then-rows-ne0
returns-then-rows-ne0 c = uneven c.args.rows.now c.args.store.now c.args.fuel c.if-rows-ne0.true

pub returns-then-fuel-gt-MOST_FUEL : goal.returns-then-fuel-gt-MOST_FUEL
returns-then-fuel-gt-MOST_FUEL c = over c.args.rows.now c.args.store.now c.args.fuel c.if-rows-ne0.false
    c.if-fuel-gt-MOST_FUEL.true

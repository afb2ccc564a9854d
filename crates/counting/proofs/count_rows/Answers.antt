-- `counting::count_rows` meets its contract. Assumes nothing.
use Rattle.counting.proofs.count_rows.Goals as goal

pub returns : goal.returns
returns g c = c.count_known.ensures (record { rows = c.args.rows.now; knows = c.learn-known.ensures })

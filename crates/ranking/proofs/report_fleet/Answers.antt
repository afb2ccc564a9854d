-- `ranking::report_fleet` meets its contract. Assumes nothing.
use Rattle.ranking.proofs.Given.{uneven_fleet, even_fleet}
use Rattle.ranking.proofs.report_fleet.Goals as goal

pub returns-then-runs-ne0 : goal.returns-then-runs-ne0
returns-then-runs-ne0 c = let r = uneven_fleet _ _ _ _ c.if-runs-ne0.true in
    record { value = r.0; report_after = r.1 }

pub returns : goal.returns
returns c = let r = even_fleet c.args.runs.now c.args.programs.now c.args.stores.now
    c.args.report.now _ _ c.if-runs-ne0.false c.report_any.ensures in
    record { value = r.0; report_after = r.1 }

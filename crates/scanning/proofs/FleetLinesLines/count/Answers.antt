-- `scanning::FleetLines::count` meets its contract. Assumes nothing.
use mathlib.Core.Path.{sym, ◌∙◌}
use Rattle.scanning.proofs.Runs.{runs_long}
use Rattle.scanning.proofs.FleetLinesLines.count.Goals as goal

pub returns-clause-value : goal.returns-clause-value
returns-clause-value c = let s = c.args.self.now in
    c.count_runs.ensures.value ∙ sym (runs_long s.runs.now s.programs.now s.stores.now)

-- `scanning::count_runs` meets its contract. Assumes nothing.
use native.Mathlib.Omega.{arith}
use Rattle.scanning.proofs.Runs.{modelled_runs}
use Rattle.scanning.proofs.count_runs.Goals as goal

pub returns-clause-modelled : goal.returns-clause-modelled
returns-clause-modelled c = λ P S. modelled_runs _ P S (λ j. omega (arith, c.type_inv.runs j))

-- `counted::count_lines` meets its contract. Assumes nothing.
use mathlib.Core.Path.{sym}
use native.Mathlib.Omega.{arith}
use Rattle.counted.proofs.Counts.{counts_long, modelled_counts}
use Rattle.counted.proofs.count_lines.Goals as goal

pub returns-clause-value : goal.returns-clause-value
returns-clause-value c = sym (counts_long _)

pub returns-clause-modelled : goal.returns-clause-modelled
returns-clause-modelled c = modelled_counts _ (λ j. omega (arith, c.type_inv.counts j))

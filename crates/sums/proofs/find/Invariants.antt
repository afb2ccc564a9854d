-- `sums::find` meets its contract. Assumes nothing.
use Rattle.sums.proofs.Chains.{Walking}
use Rattle.sums.proofs.find.Given as goal

abbrev pub invariant-loop-e : goal.invariant-loop-e
invariant-loop-e l = Walking l.table l.heads l.nexts l.model l.e

abbrev pub decreases-loop-e : goal.decreases-loop-e
decreases-loop-e l = l.e

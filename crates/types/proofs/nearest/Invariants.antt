-- `types::nearest` meets its contract. Assumes nothing.
use Rattle.types.proofs.Laws.{Going}
use Rattle.types.proofs.nearest.Given as goal

abbrev pub invariant-loop-k : goal.invariant-loop-k
invariant-loop-k l = Going l.table l.above l.c l.d l.k

abbrev pub decreases-loop-k : goal.decreases-loop-k
decreases-loop-k l = l.k

-- `sums::count_below` meets its contract. Assumes nothing.
use native.Mathlib.Omega.{arith}
use Rattle.sums.proofs.Narrowing.{counting_start, counting_one, counting_none}
use Rattle.sums.proofs.count_below.Goals as goal
use Rattle.sums.proofs.count_below.Goals.{then-from-end, else-from-end}

pub loop-e-init : goal.loop-e-init
loop-e-init c = counting_start _ _

pub loop-e-preserved : goal.loop-e-preserved
loop-e-preserved c = elim c.if-from-end.branch [
  | then-from-end w ↦ rw w.n-is (counting_one c.loop-e.invariant (omega arith))
  | else-from-end w ↦ rw w.n-is (counting_none c.loop-e.invariant (omega arith))
]

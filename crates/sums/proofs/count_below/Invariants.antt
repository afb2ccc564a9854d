-- `sums::count_below` meets its contract. Assumes nothing.
use Rattle.sums.proofs.Narrowing.{Counting}
use Rattle.sums.proofs.count_below.Given as goal

abbrev pub invariant-loop-e : goal.invariant-loop-e
invariant-loop-e l = Counting l.table l.end l.n l.e

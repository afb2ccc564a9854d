-- `sums::keep_below` meets its contract. Assumes nothing.
use Rattle.sums.proofs.Narrowing.{Keeping}
use Rattle.sums.proofs.keep_below.Given as goal

abbrev pub invariant-loop-e : goal.invariant-loop-e
invariant-loop-e l = Keeping l.initial.table l.table l.end l.kept l.e

-- `sums::choose_end` meets its contract. Assumes nothing.
use Prim.Native.Nat.{◌-◌}
use Rattle.sums.proofs.Narrowing.{Choosing}
use Rattle.sums.proofs.choose_end.Given as goal

abbrev pub invariant-loop-kept : goal.invariant-loop-kept
invariant-loop-kept l = Choosing l.table l.count l.low l.end l.kept l.over

abbrev pub decreases-loop-kept : goal.decreases-loop-kept
decreases-loop-kept l = l.over - l.kept

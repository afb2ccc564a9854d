use Prim.Native.Nat.{◌-◌}
use Rattle.limits.proofs.ReservedNames.{ClassesWalked}
use Rattle.limits.proofs.check_reserved.Given as goal

abbrev pub invariant-loop-fields : goal.invariant-loop-fields
invariant-loop-fields l = ClassesWalked l.rows l.ends l.at l.row

abbrev pub decreases-loop-fields : goal.decreases-loop-fields
decreases-loop-fields l = 60000 - l.row

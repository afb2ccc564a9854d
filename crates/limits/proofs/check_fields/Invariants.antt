use Prim.Native.Nat.{◌-◌}
use Rattle.limits.proofs.FieldLimits.{FieldsWalked}
use Rattle.limits.proofs.check_fields.Given as goal

abbrev pub invariant-loop-inherited : goal.invariant-loop-inherited
invariant-loop-inherited l = FieldsWalked l.rows l.ends l.tables l.at l.row

abbrev pub decreases-loop-inherited : goal.decreases-loop-inherited
decreases-loop-inherited l = 60000 - l.row

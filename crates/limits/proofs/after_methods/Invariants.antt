use Prim.Native.Nat.{◌-◌}
use Rattle.limits.specs.Standing.{SomeMethodsStand, MethodsPassed}
use Rattle.limits.proofs.Standing.{Walked}
use Rattle.limits.proofs.after_methods.Given as goal

abbrev pub invariant-loop-row : goal.invariant-loop-row
invariant-loop-row l = Walked (SomeMethodsStand l.rows l.ends) (MethodsPassed l.rows l.ends) l.at l.row

abbrev pub decreases-loop-row : goal.decreases-loop-row
decreases-loop-row l = 60000 - l.row

-- `bodies::check_bodies` meets its contract: before each turn the methods so far have passed. Assumes nothing.
use Prim.Native.Nat.{◌-◌}
use Rattle.bodies.proofs.Passes.{Going}
use Rattle.bodies.proofs.check_bodies.Given as goal

abbrev pub invariant-loop-i : goal.invariant-loop-i
invariant-loop-i l = Going l.rows l.ends l.table l.above l.methods l.effects l.initial.slots l.initial.class_at l.slots l.class_at l.count l.many l.start l.width l.i

abbrev pub decreases-loop-i : goal.decreases-loop-i
decreases-loop-i l = l.many - l.i

-- The pass: between two classes, the classes read so far and what is left. Assumes nothing.
use Prim.Native.Nat.{◌+◌, ◌-◌}
use Rattle.parsing.proofs.ClassLaws.{Classing}
use Rattle.form.proofs.pass_form.Given as goal

abbrev pub invariant-loop-limits : goal.invariant-loop-limits
invariant-loop-limits l = Classing l.limits l.rows l.initial.ends l.ends l.i l.classes

abbrev pub decreases-loop-limits : goal.decreases-loop-limits
decreases-loop-limits l = l.limits.rows + 1 - l.i

-- Methods: between two of them, what is left to read tells of the whole. Assumes nothing.
use Prim.Native.Nat.{◌+◌, ◌-◌}
use Rattle.parsing.proofs.ClassLaws.{Listing}
use Rattle.parsing.proofs.classes.pass_methods.Given as goal

abbrev pub invariant-loop-limits : goal.invariant-loop-limits
invariant-loop-limits l = Listing l.limits l.rows l.initial.ends l.ends l.at l.i

abbrev pub decreases-loop-limits : goal.decreases-loop-limits
decreases-loop-limits l = l.limits.rows + 1 - l.i

-- Lines of a letter: between two of them, how many are left and what is left to write. Assumes nothing.
use Prim.Native.Nat.{◌+◌, ◌-◌}
use Rattle.parsing.proofs.LineLaws.{Passing}
use Rattle.parsing.proofs.lines.pass_lines.Given as goal

abbrev pub invariant-loop-limits : goal.invariant-loop-limits
invariant-loop-limits l = Passing l.limits l.rows l.initial.ends l.ends l.at l.letter l.i

abbrev pub decreases-loop-limits : goal.decreases-loop-limits
decreases-loop-limits l = l.limits.rows + 1 - l.i

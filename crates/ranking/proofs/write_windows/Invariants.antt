-- `ranking::write_windows` meets its contract. Assumes nothing.
use Prim.Native.Nat.{◌-◌}
use Rattle.ranking.proofs.Writing.{WritingAll}
use Rattle.ranking.proofs.write_windows.Given as goal

abbrev pub invariant-loop-low : goal.invariant-loop-low
invariant-loop-low g l = WritingAll (g.L.Lines.lines l.lines) l.initial.report l.initial.table l.initial.heads l.initial.nexts
    l.report l.table l.heads l.nexts l.low l.have

abbrev pub decreases-loop-low : goal.decreases-loop-low
decreases-loop-low g l = 4294967296 - l.low

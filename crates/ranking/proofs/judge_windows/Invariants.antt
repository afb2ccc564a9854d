-- `ranking::judge_windows` meets its contract. Assumes nothing.
use Prim.Native.Nat.{◌-◌}
use Rattle.ranking.proofs.Looping.{JudgingAll}
use Rattle.ranking.proofs.judge_windows.Given as goal

abbrev pub invariant-loop-low : goal.invariant-loop-low
invariant-loop-low g l = JudgingAll g.L.Lines.refusal (g.L.Lines.lines l.lines) l.bytes l.low l.j
    l.initial.table l.initial.heads l.initial.nexts l.table l.heads l.nexts

abbrev pub decreases-loop-low : goal.decreases-loop-low
decreases-loop-low g l = 4294967296 - l.low

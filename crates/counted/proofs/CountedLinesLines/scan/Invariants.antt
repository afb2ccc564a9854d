-- `counted::CountedLines::scan` meets its contract. Assumes nothing.
use Rattle.fleet.specs.Fleet.{counted_lines}
use Rattle.counted.proofs.Scanning.{Scanning}
use Rattle.counted.proofs.CountedLinesLines.scan.Given as goal

abbrev pub invariant-loop-place : goal.invariant-loop-place
invariant-loop-place l = Scanning (counted_lines l.self.counts.now) l.low l.initial.table l.initial.heads l.initial.nexts l.table
    l.heads l.nexts l.place l.window

-- `scanning::FleetLines::scan` meets its contract. Assumes nothing.
use mathlib.Core.Path.{◌≡◌}
use Prim.Native.Nat.{◌*◌, ◌≤◌}
use lib.ListN.{length}
use Rattle.fleet.specs.Fleet.{runs_of, lines_of_runs}
use Rattle.counted.proofs.Scanning.{Scanning}
use Rattle.scanning.proofs.Runs.{Left}
use Rattle.scanning.proofs.FleetLinesLines.scan.Given as goal

abbrev pub invariant-loop-place : goal.invariant-loop-place
invariant-loop-place l = Scanning (lines_of_runs (runs_of l.self.runs.now) l.self.programs.now l.self.stores.now) l.low
    l.initial.table l.initial.heads l.initial.nexts l.table l.heads l.nexts l.place l.window
    × Left l.self.runs.now l.self.programs.now l.self.stores.now l.above l.known l.before l.at l.from l.place
    × (length l.above ≡ 65) × (l.limit * 6 ≤ length l.self.runs.now)

-- `counted::CountedLines::scan` meets its contract. Assumes nothing.
use mathlib.Core.Path.{◌≡◌, refl}
use Prim.Native.Nat.{◌+◌, ◌*◌, ◌<◌}
use native.Mathlib.Omega.{arith}
use lib.ListN.{length}
use Rattle.counted.specs.Scanning.{no_line}
use Rattle.counted.proofs.Scanning.{scan_start, scan_next, scan_end, scan_fault, past_fault}
use Rattle.counted.proofs.Scanning.{scanned_from}
use Rattle.counted.proofs.Counts.{counts_long, line_counts, line_not}
use Rattle.counted.proofs.CountedLinesLines.scan.Goals as goal

pub loop-place-init : goal.loop-place-init
loop-place-init c = let o = c.open_window-window.ensures in
    scan_start _ _ _ _ _ _ c.requires.limit_in_bounds.1 o.count_value.0 o.count_value.1 o.sums_after

pub at-line-requires : goal.at-line-requires
at-line-requires c = omega (arith, c.requires.limit_in_bounds.0, counts_long c.args.self.now.counts.now)

pub returns-then-line : goal.returns-then-line
returns-then-line c = let ns = c.args.self.now.counts.now in let o = c.refused.ensures in
    let l : c.loop-place.place * 4 + 3 < length ns = omega (arith, c.requires.limit_in_bounds.0, counts_long ns) in
    scanned_from c.open_window-window.ensures.sums_after.kept
    (scan_fault _ _ _ _ _ c.loop-place.invariant _ c.args.limit _ _ c.loop-place-test.true
    (no_line (line_not _ _ l (rw c.at-line.ensures at c.if-line.true))) o.0 o.1 o.2 (refl, (refl, refl)))

pub returns-in_default : goal.returns-in_default
returns-in_default c = let ns = c.args.self.now.counts.now in let o = c.refused-in_default.ensures in
    let l : c.loop-place.place * 4 + 3 < length ns = omega (arith, c.requires.limit_in_bounds.0, counts_long ns) in
    let s = c.loop-place.invariant in let k = c.take.auto in
    scanned_from c.open_window-window.ensures.sums_after.kept
    (scan_fault _ _ _ _ _ s _ c.args.limit _ _ c.loop-place-test.true
    (past_fault _ _ _ _ _ s _ _ (line_counts _ _ l (rw c.at-line.ensures at c.if-line.false))
    (rw c.at-line.ensures at c.in_default.ensures)) o.0 o.1 o.2 (k.table, (k.heads, k.nexts)))

pub loop-place-preserved : goal.loop-place-preserved
loop-place-preserved c = let ns = c.args.self.now.counts.now in
    let l : c.loop-place.place * 4 + 3 < length ns = omega (arith, c.requires.limit_in_bounds.0, counts_long ns) in
    scan_next _ _ _ _ _ c.loop-place.invariant _ _
    (line_counts _ _ l (rw c.at-line.ensures at c.if-line.false)) (rw c.at-line.ensures at c.in-Some.ensures)

pub returns : goal.returns
returns c = let o = c.whole.ensures in
    let e : c.loop-place.place ≡ c.args.limit = omega arith in
    scanned_from c.open_window-window.ensures.sums_after.kept
    (scan_end _ _ _ _ _ c.loop-place.invariant _ c.args.limit _ e o.0 o.1 o.2)

-- `scanning::FleetLines::scan` meets its contract. Assumes nothing.
use mathlib.Core.Path.{◌≡◌, refl}
use Prim.Native.Nat.{◌+◌, ◌*◌, ◌<◌}
use native.Mathlib.Omega.{arith}
use lib.ListN.{length}
use Rattle.counted.specs.Scanning.{no_line}
use Rattle.counted.proofs.Scanning.{scan_start, scan_next, scan_end, scan_fault, past_fault}
use Rattle.counted.proofs.Scanning.{scanned_from}
use Rattle.scanning.proofs.Runs.{left_start, rows_refused, run_refused, run_counted}
use Rattle.scanning.proofs.Runs.{left_next, runs_long, told_number}
use Rattle.scanning.proofs.FleetLinesLines.scan.Goals as goal

pub loop-place-init : goal.loop-place-init
loop-place-init c = let o = c.open_window-window.ensures in let s = c.args.self.now in (
  scan_start _ _ _ _ _ _ c.requires.limit_in_bounds.1 o.count_value.0 o.count_value.1 o.sums_after,
  left_start _ _ _ _ (omega arith),
  refl,
  omega (arith, c.requires.limit_in_bounds.0, runs_long s.runs.now s.programs.now s.stores.now),
)

pub returns-then-programs-at : goal.returns-then-programs-at
returns-then-programs-at c = let i = c.loop-place.invariant in let o = c.refused.ensures in
    let l : c.loop-place.place * 6 + 5 < length c.args.self.now.runs.now = omega (arith, i.3) in
    scanned_from c.open_window-window.ensures.sums_after.kept
    (scan_fault _ _ _ _ _ i.0 _ c.args.limit _ _ c.loop-place-test.true
    (no_line (rows_refused _ _ _ i.1 l c.if-programs-at.true)) o.0 o.1 o.2 (refl, (refl, refl)))

pub returns-in-Err : goal.returns-in-Err
returns-in-Err c = let i = c.loop-place.invariant in let o = c.refused-in-Err.ensures in
    let l : c.loop-place.place * 6 + 5 < length c.args.self.now.runs.now = omega (arith, i.3) in
    let t = c.in-Err.ensures (record { rows = _; knows = c.know_next-known.ensures }) in
    scanned_from c.open_window-window.ensures.sums_after.kept
    (scan_fault _ _ _ _ _ i.0 _ c.args.limit _ _ c.loop-place-test.true
    (rw (told_number _ _ t) (no_line (run_refused _ _ _ i.1 l c.if-programs-at.false _ t))) o.0 o.1 o.2
    (refl, (refl, refl)))

pub returns-in_default : goal.returns-in_default
returns-in_default c = let i = c.loop-place.invariant in let o = c.refused-in_default.ensures in
    let l : c.loop-place.place * 6 + 5 < length c.args.self.now.runs.now = omega (arith, i.3) in
    let k = c.take.auto in
    scanned_from c.open_window-window.ensures.sums_after.kept
    (scan_fault _ _ _ _ _ i.0 _ c.args.limit _ _ c.loop-place-test.true
    (past_fault _ _ _ _ _ i.0 _ _ (run_counted _ _ _ i.1 l c.if-programs-at.false _
    (c.in-Ok.ensures (record { rows = _; knows = c.know_next-known.ensures })))
    c.in_default.ensures) o.0 o.1 o.2 (k.table, (k.heads, k.nexts)))

pub loop-place-preserved : goal.loop-place-preserved
loop-place-preserved c = let i = c.loop-place.invariant in
    let l : c.loop-place.place * 6 + 5 < length c.args.self.now.runs.now = omega (arith, i.3) in
    let t = c.in-Ok.ensures (record { rows = _; knows = c.know_next-known.ensures }) in (
      scan_next _ _ _ _ _ i.0 _ _ (run_counted _ _ _ i.1 l c.if-programs-at.false _ t) c.in-Some.ensures,
      left_next _ _ _ i.1 l c.if-programs-at.false _ t c.know_next-known.ensures,
      omega arith,
      i.3,
    )

pub returns : goal.returns
returns c = let o = c.whole.ensures in
    let e : c.loop-place.place ≡ c.args.limit = omega arith in
    scanned_from c.open_window-window.ensures.sums_after.kept
    (scan_end _ _ _ _ _ c.loop-place.invariant.0 _ c.args.limit _ e o.0 o.1 o.2)

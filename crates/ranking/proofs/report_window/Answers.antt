-- `ranking::report_window` meets its contract. Assumes nothing.
use mathlib.Core.List.{[]}
use native.Mathlib.Omega.{arith}
use Rattle.ranking.proofs.Ending.{sums_refuse, sums_all, refused_report, short_report, whole_report}
use Rattle.ranking.proofs.Merging.{stands_none, from_none, merged_alone}
use Rattle.ranking.proofs.report_window.Goals as goal

pub returns-in-Some : goal.returns-in-Some
returns-in-Some c = λ number ls w. refused_report number ls _ _ _ (sums_refuse w.reached w.clean _ c.in-Some.is)

pub measure-requires : goal.measure-requires
measure-requires c = let r = c.requires.whole.ready c.in_default.is in (r.table, r.few)

pub returns-then-report-measure : goal.returns-then-report-measure
returns-then-report-measure c = λ number ls w. let a = sums_all w.reached w.clean c.in_default.is in
    short_report number ls _ _ a.0
    (rw (w.holds c.in_default.is) at (rw c.measure.ensures at c.if-report-measure.true))

pub merge_window-requires : goal.merge_window-requires
merge_window-requires c = record {
  ready = c.requires.whole.ready c.in_default.is;
  stands = record { lines = []; standing = stands_none _ };
  count_in_bounds = omega (arith, c.measure.ensures, c.if-report-measure.false);
}

pub returns : goal.returns
returns c = λ number ls w. let a = sums_all w.reached w.clean c.in_default.is in
    let h = w.holds c.in_default.is in let m = c.merge_window.ensures in
    whole_report number ls _ _ _ _ a.0
    (omega (arith, rw h at c.measure.ensures, c.if-report-measure.false)) (from_none _ _ m.value h)
    (merged_alone _ _ _ (m.report_after [] (stands_none _)) h)

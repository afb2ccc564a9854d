-- `ranking::report_lines` meets its contract. Assumes nothing.
use native.Mathlib.Omega.{arith}
use Rattle.ranking.proofs.Writing.{whole_scan, lent_same}
use Rattle.ranking.proofs.report_lines.Goals as goal

pub report_window-requires : goal.report_window-requires
report_window-requires g c = let n = c.count-n.ensures in let s = rw n.value at c.scan-s.ensures in
    record {
      number = _;
      lines = _;
      whole = whole_scan n.modelled s c.if-s-eq-ALL_MODELS.true c.requires
          (omega (arith, c.scan-s.ensures.reached.within, n.upper_bound));
    }

pub returns-then-s-eq-ALL_MODELS : goal.returns-then-s-eq-ALL_MODELS
returns-then-s-eq-ALL_MODELS g c = let n = c.count-n.ensures in let s = rw n.value at c.scan-s.ensures in
    c.report_window.ensures _ _ (whole_scan n.modelled s c.if-s-eq-ALL_MODELS.true c.requires
    (omega (arith, c.scan-s.ensures.reached.within, n.upper_bound)))

pub report_windows-requires : goal.report_windows-requires
report_windows-requires g c = let k = c.scan-s.ensures.kept in lent_same k.0 k.1.0 k.1.1 c.requires

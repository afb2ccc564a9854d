-- `ranking::write_windows` meets its contract. Assumes nothing.
use mathlib.Core.Path.{refl, ◌∙◌}
use native.Mathlib.Omega.{arith}
use Rattle.ranking.proofs.Writing.{writing_start, writing_stands, writing_room}
use Rattle.ranking.proofs.Writing.{writing_next}
use Rattle.ranking.proofs.Writing.{scan_holds, scan_ready, lent_same, written_all}
use Rattle.ranking.proofs.write_windows.Goals as goal

pub loop-low-init : goal.loop-low-init
loop-low-init g c = record {
  writing = writing_start _ _;
  lent = c.requires.lent;
  report = refl;
  tables = (refl, (refl, refl));
}

pub merge_window-have-requires : goal.merge_window-have-requires
merge_window-have-requires g c = let f = c.requires.fits in let i = c.loop-low.invariant in
    let m = c.count-n.ensures.modelled in let s = rw c.count-n.ensures.value at c.scan-s.ensures in
    let h = scan_holds _ _ f.count f.clean s in record {
      ready = scan_ready _ _ f.count f.clean s i.lent;
      stands = record { lines = _; standing = writing_stands _ m f.clean i.writing };
      count_in_bounds = writing_room _ m f.clean i.writing _ _ _ (omega (arith, s.wide))
          (omega (arith, f.room, i.report)) h;
    }

pub loop-low-preserved : goal.loop-low-preserved
loop-low-preserved g c = let f = c.requires.fits in let i = c.loop-low.invariant in
    let m = c.count-n.ensures.modelled in let s = rw c.count-n.ensures.value at c.scan-s.ensures in
    let h = scan_holds _ _ f.count f.clean s in
    let e = c.merge_window-have.ensures in let k = s.kept in
    let q = c.merge_window-have.auto in
    let heads = q.order ∙ k.1.0 in let nexts = q.spare ∙ k.1.1 in
    record {
      writing = writing_next _ m f.clean i.writing _ _ _ _ (omega (arith, s.wide)) s.most h e.value
          (e.report_after _ (writing_stands _ m f.clean i.writing));
      lent = lent_same k.0 heads nexts i.lent;
      report = q.report ∙ i.report;
      tables = (k.0 ∙ i.tables.0, (heads ∙ i.tables.1.0, nexts ∙ i.tables.1.1));
    }

pub returns : goal.returns
returns g c = written_all c.count-n.ensures.modelled c.loop-low.invariant.writing (omega arith)

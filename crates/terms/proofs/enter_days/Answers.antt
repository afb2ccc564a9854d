-- `terms::enter_days` meets its contract. Assumes nothing.
use Rattle.std.proofs.Common.{sym, ◌∙◌, true, false, arith}
use Rattle.terms.proofs.Entering.{entering_step, entering_done}
use Rattle.terms.proofs.enter_days.Goals.{then-covers, else-covers}
use Rattle.terms.proofs.enter_days.Goals as goal

pub loop-i-preserved : goal.loop-i-preserved
loop-i-preserved c = elim c.if-covers.branch [
  | then-covers w ↦ entering_step c.loop-i.invariant c.loop-i-test.true true
      (sym c.covers.ensures ∙ w.if-covers.true) _ (w.table-is ∙ w.enter_day.ensures)
  | else-covers w ↦ entering_step c.loop-i.invariant c.loop-i-test.true false
      (sym c.covers.ensures ∙ w.if-covers.false) _ w.table-is
]

pub returns : goal.returns
returns c = entering_done c.loop-i.invariant (omega arith)

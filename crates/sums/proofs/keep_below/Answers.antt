-- `sums::keep_below` meets its contract. Assumes nothing.
use Rattle.sums.proofs.Narrowing.{keeping_start, keeping_step}
use Rattle.sums.proofs.keep_below.Goals as goal

pub loop-e-init : goal.loop-e-init
loop-e-init c = keeping_start _ _

pub loop-e-preserved : goal.loop-e-preserved
loop-e-preserved c = keeping_step c.loop-e.invariant c.keep_entry-kept.ensures

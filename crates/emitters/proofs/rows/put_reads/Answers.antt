use native.Mathlib.Omega.{arith}
use Rattle.emitters.proofs.Lines.{reads_none, reads_more}
use Rattle.emitters.proofs.rows.put_reads.Goals as goal

pub loop-s-init : goal.loop-s-init
loop-s-init c = (reads_none _ _ (omega arith), omega arith)

pub loop-s-preserved : goal.loop-s-preserved
loop-s-preserved c = (
  reads_more _ _ _ _ (omega arith) (omega arith) c.loop-s.invariant.0 c.put-end.ensures,
  omega arith,
)

use native.Mathlib.Omega.{arith}
use Rattle.emitters.proofs.Writing.{putting_start, putting_step, putting_end}
use Rattle.emitters.proofs.rows.put_part.Goals as goal

pub loop-line-init : goal.loop-line-init
loop-line-init c = putting_start

pub put_line-requires : goal.put_line-requires
put_line-requires c = omega (arith, c.loop-line.invariant.ended)

pub overflow_add-end : goal.overflow_add-end
overflow_add-end c = omega (arith, c.loop-line.invariant.ended)

pub loop-line-preserved : goal.loop-line-preserved
loop-line-preserved c = putting_step c.loop-line.invariant c.loop-line-test.true
    (c.told-lines c.loop-line.line-index c.loop-line-test.true) c.put_line.ensures

pub returns : goal.returns
returns c = putting_end c.loop-line.invariant c.loop-line-test.false

-- `headings::start_block` meets its contract. Assumes nothing.
use mathlib.Core.Path.{refl}
use Rattle.std.proofs.Common.{arith, ◌-◌}
use Rattle.headings.proofs.Classes.{start_index, started, start_state, start_other}
use Rattle.headings.proofs.Copying.{copied_step}
use Rattle.headings.proofs.start_block.Goals as goal

pub overflow_mul-base : goal.overflow_mul-base
overflow_mul-base c =
    let j = start_index c.requires in omega (arith, j.0, j.1, j.2)

pub bounds-tables-from : goal.bounds-tables-from
bounds-tables-from c =
    let j = start_index c.requires in omega (arith, j.0, j.1, j.2, c.loop-i.invariant.long, c.loop-i-test.true)

pub overflow_add-tables-in-loop-i : goal.overflow_add-tables-in-loop-i
overflow_add-tables-in-loop-i c =
    let j = start_index c.requires in omega (arith, j.0, j.1, j.2, c.loop-i.invariant.long, c.loop-i-test.true)

pub offset_bounds-tables-base : goal.offset_bounds-tables-base
offset_bounds-tables-base c =
    let j = start_index c.requires in omega (arith, j.0, j.1, j.2, c.loop-i.invariant.long, c.loop-i-test.true)

pub bounds-tables-base : goal.bounds-tables-base
bounds-tables-base c =
    let j = start_index c.requires in omega (arith, j.0, j.1, j.2, c.loop-i.invariant.long, c.loop-i-test.true)

pub loop-i-preserved : goal.loop-i-preserved
loop-i-preserved c =
    let j = start_index c.requires in
    copied_step _ _ _ _ c.loop-i.i _ _ _ c.loop-i.invariant (omega (arith, j.1, c.loop-i-test.true))
    (omega (arith, j.0, c.loop-i-test.true)) refl refl refl

pub bounds-tables-from-in-loop-i-2 : goal.bounds-tables-from-in-loop-i-2
bounds-tables-from-in-loop-i-2 c =
    let j = start_index c.requires in
    omega (arith, j.0, j.1, j.2, c.loop-i.invariant.long, c.loop-i-2.invariant.long, c.loop-i-2-test.true, c.loop-i-2.auto.i)

pub overflow_add-tables-in-loop-i-2-2 : goal.overflow_add-tables-in-loop-i-2-2
overflow_add-tables-in-loop-i-2-2 c =
    let j = start_index c.requires in
    omega (arith, j.0, j.1, j.2, c.loop-i.invariant.long, c.loop-i-2.invariant.long, c.loop-i-2-test.true, c.loop-i-2.auto.i)

pub offset_bounds-tables-base-in-loop-i-2 : goal.offset_bounds-tables-base-in-loop-i-2
offset_bounds-tables-base-in-loop-i-2 c =
    let j = start_index c.requires in
    omega (arith, j.0, j.1, j.2, c.loop-i.invariant.long, c.loop-i-2.invariant.long, c.loop-i-2-test.true, c.loop-i-2.auto.i)

pub bounds-tables-base-in-loop-i-2 : goal.bounds-tables-base-in-loop-i-2
bounds-tables-base-in-loop-i-2 c =
    let j = start_index c.requires in
    omega (arith, j.0, j.1, j.2, c.loop-i.invariant.long, c.loop-i-2.invariant.long, c.loop-i-2-test.true, c.loop-i-2.auto.i)

pub loop-i-2-preserved : goal.loop-i-2-preserved
loop-i-2-preserved c =
    let j = start_index c.requires in
    copied_step _ _ _ _ (c.loop-i-2.i - 514) _ _ _ c.loop-i-2.invariant (omega (arith, j.1, c.loop-i-2-test.true))
    (omega (arith, j.0, c.loop-i.invariant.long, c.loop-i-2-test.true)) (omega (arith, c.loop-i-2.auto.i))
    (omega (arith, c.loop-i-2.auto.i)) (omega (arith, c.loop-i-2.auto.i))

pub overflow_cast-tables : goal.overflow_cast-tables
overflow_cast-tables c =
    let j = start_index c.requires in omega (arith, j.2)

pub overflow_add-tables-then-kind-ne-STATE_KIND : goal.overflow_add-tables-then-kind-ne-STATE_KIND
overflow_add-tables-then-kind-ne-STATE_KIND c =
    let j = start_index c.requires in omega (arith, j.0, j.1, j.2, c.loop-i.invariant.long, c.loop-i-2.invariant.long)

pub offset_bounds-tables-base-then-kind-ne-STATE_KIND : goal.offset_bounds-tables-base-then-kind-ne-STATE_KIND
offset_bounds-tables-base-then-kind-ne-STATE_KIND c =
    let j = start_index c.requires in omega (arith, j.0, j.1, j.2, c.loop-i.invariant.long, c.loop-i-2.invariant.long)

pub bounds-tables-base-then-kind-ne-STATE_KIND : goal.bounds-tables-base-then-kind-ne-STATE_KIND
bounds-tables-base-then-kind-ne-STATE_KIND c =
    let j = start_index c.requires in omega (arith, j.0, j.1, j.2, c.loop-i.invariant.long, c.loop-i-2.invariant.long)

pub returns-then-kind-ne-STATE_KIND : goal.returns-then-kind-ne-STATE_KIND
returns-then-kind-ne-STATE_KIND c = λ w.
    start_other w (started w (omega (arith, c.loop-i-test.false, c.loop-i.auto.i-end))
    (omega (arith, c.loop-i-2-test.false, c.loop-i-2.auto.i-end)) c.loop-i.invariant c.loop-i-2.invariant)
    c.if-kind-ne-STATE_KIND.true

pub returns-else-kind-ne-STATE_KIND : goal.returns-else-kind-ne-STATE_KIND
returns-else-kind-ne-STATE_KIND c = λ w.
    start_state w (started w (omega (arith, c.loop-i-test.false, c.loop-i.auto.i-end))
    (omega (arith, c.loop-i-2-test.false, c.loop-i-2.auto.i-end)) c.loop-i.invariant c.loop-i-2.invariant)
    c.if-kind-ne-STATE_KIND.false

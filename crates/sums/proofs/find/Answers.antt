-- `sums::find` meets its contract. Assumes nothing.
use native.Mathlib.Omega.{arith}
use Rattle.sums.proofs.Chains.{walk_start, walk_on, walk_at, walk_in, walk_end, walk_less}
use Rattle.sums.proofs.find.Goals as goal

pub loop-e-init : goal.loop-e-init
loop-e-init c = rw (c.from-e.ensures, c.bucket.ensures.0) (walk_start _ _ _ _ c.requires)

pub overflow_mul-e : goal.overflow_mul-e
overflow_mul-e c = let w = walk_in _ _ _ _ _ c.requires c.loop-e.invariant c.loop-e-test.true in omega arith

pub offset_bounds-table-e : goal.offset_bounds-table-e
offset_bounds-table-e c = let w = walk_in _ _ _ _ _ c.requires c.loop-e.invariant c.loop-e-test.true in omega arith

pub bounds-table-e : goal.bounds-table-e
bounds-table-e c = let w = walk_in _ _ _ _ _ c.requires c.loop-e.invariant c.loop-e-test.true in omega arith

pub returns-then-table-e : goal.returns-then-table-e
returns-then-table-e c = walk_at _ _ _ _ _ c.loop-e-test.true c.loop-e.invariant c.if-table-e.true

pub offset_bounds-nexts-e : goal.offset_bounds-nexts-e
offset_bounds-nexts-e c = let w = walk_in _ _ _ _ _ c.requires c.loop-e.invariant c.loop-e-test.true in omega arith

pub bounds-nexts-e : goal.bounds-nexts-e
bounds-nexts-e c = let w = walk_in _ _ _ _ _ c.requires c.loop-e.invariant c.loop-e-test.true in omega arith

pub loop-e-smaller : goal.loop-e-smaller
loop-e-smaller c = rw c.from-e-in-loop-e.ensures
    (walk_less _ _ _ _ _ c.loop-e-test.true c.requires c.loop-e.invariant)

pub loop-e-preserved : goal.loop-e-preserved
loop-e-preserved c = rw c.from-e-in-loop-e.ensures
    (walk_on _ _ _ _ _ c.loop-e-test.true c.loop-e.invariant c.if-table-e.false)

pub returns : goal.returns
returns c = walk_end _ _ _ _ (rw c.loop-e-test.false at c.loop-e.invariant)

-- `types::nearest` meets its contract. Assumes nothing.
use native.Mathlib.Omega.{arith}
use Rattle.types.proofs.Laws.{going_start, going_end, going_step}
use Rattle.types.proofs.nearest.Goals as goal

pub loop-k-init : goal.loop-k-init
loop-k-init c = going_start _ _ _ _

pub is_below-requires : goal.is_below-requires
is_below-requires c = (
  omega (arith, c.requires.second, c.requires.sound.long_above),
  omega (
    arith,
    c.requires.sound.few,
    c.requires.first,
    c.loop-k.invariant.low,
  ),
)

pub class_entry-k-requires : goal.class_entry-k-requires
class_entry-k-requires c = omega (arith, c.requires.sound.long, c.requires.first, c.loop-k.invariant.low)

pub loop-k-smaller : goal.loop-k-smaller
loop-k-smaller c = (going_step c.requires c.loop-k.invariant _ c.is_below.ensures
    c.loop-k-test.true _ c.class_entry-k.ensures).0

pub loop-k-preserved : goal.loop-k-preserved
loop-k-preserved c = (going_step c.requires c.loop-k.invariant _ c.is_below.ensures
    c.loop-k-test.true _ c.class_entry-k.ensures).1

pub returns : goal.returns
returns c = going_end c.loop-k.invariant _ c.is_below.ensures
    c.loop-k-test.false

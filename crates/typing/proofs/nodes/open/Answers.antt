-- `typing::nodes::open` meets its contract. Assumes nothing.
use mathlib.Core.Path.{refl, ap}
use Rattle.std.specs.Prelude.{Err}
use Rattle.typing.proofs.OpenLaws.{open_start, open_step, open_stop, open_end}
use Rattle.typing.proofs.nodes.open.Goals as goal

pub loop-i-init : goal.loop-i-init
loop-i-init c = open_start _ _ _ _ _ _

pub returns-then-not-is_type : goal.returns-then-not-is_type
returns-then-not-is_type c = open_stop c.loop-i.invariant c.loop-i-test.true _ _
    c.first-number.ensures
    c.is_type.ensures _ (c.if-not-is_type.true) (ap Err c.refused.ensures)

pub loop-i-preserved : goal.loop-i-preserved
loop-i-preserved c = open_step c.loop-i.invariant c.loop-i-test.true _ _ c.first-number.ensures
    c.is_type.ensures (c.if-not-is_type.false)
    c.requires.slots _ c.fresh.ensures

pub returns : goal.returns
returns c = open_end c.loop-i.invariant c.loop-i-test.false _ refl

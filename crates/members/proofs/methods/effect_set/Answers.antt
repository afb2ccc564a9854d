-- `members::methods::effect_set` meets its contract. Assumes nothing.
use Rattle.std.proofs.Common.{arith}
use Rattle.members.proofs.Loops.{effects_index, effects_end, collecting_class}
use Rattle.members.proofs.Loops.{collecting_more, collecting_end}
use Rattle.members.proofs.methods.effect_set.Goals as goal

pub overflow_add-at-end : goal.overflow_add-at-end
overflow_add-at-end c = grind (arith, effects_end c.requires.lines)

pub first-requires : goal.first-requires
first-requires c =
    omega (arith, (effects_index c.requires.lines c.loop-at.at c.loop-at.auto.at c.loop-at-test.true).0)

pub effect_of-set-requires : goal.effect_of-set-requires
effect_of-set-requires c = collecting_class c.requires _ _ (c.loop-at.invariant c.requires) c.loop-at-test.true _
    c.first.ensures

pub loop-at-preserved : goal.loop-at-preserved
loop-at-preserved c = λ w. collecting_more w _ _ (c.loop-at.invariant w) c.loop-at-test.true _ c.first.ensures _
    c.effect_of-set.ensures

pub returns : goal.returns
returns c = λ w. collecting_end w _ _ (c.loop-at.invariant w) c.loop-at-test.false

-- `bodies::enter` meets its contract. Assumes nothing.
use mathlib.Core.Path.{ap, ◌∙◌}
use native.Mathlib.Omega.{arith}
use Rattle.bodies.proofs.WholeLaws.{enter_start, enter_step, enter_long, enter_end}
use Rattle.types.specs.Answers.{fresh_in}
use Rattle.bodies.proofs.enter.Goals as goal

pub loop-i-init : goal.loop-i-init
loop-i-init c = (omega arith, enter_start _ _ _)

pub loop-i-preserved : goal.loop-i-preserved
loop-i-preserved c = (
  omega arith,
  enter_step c.loop-i.invariant.1
      (omega (
        arith,
        c.requires.slots,
        enter_long _ c.args.slots.now _ c.fresh.result _ _
            c.loop-i.invariant.1,
        c.loop-i.invariant.1.long,
      )) _
      (c.fresh-in-loop-i.ensures ∙ ap fresh_in c.first.ensures),
)

pub returns : goal.returns
returns c = enter_end _ _ _ _ _ _ _ _ c.fresh.ensures c.loop-i-test.false
    (omega (arith, c.requires.slots)) c.loop-i.invariant.1

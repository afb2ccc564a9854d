-- `members::methods::check_effects` meets its contract. Assumes nothing.
use Rattle.std.proofs.Common.{arith, rules, ◌≡◌, ◌∙◌, Err}
use Rattle.members.proofs.Loops.{effects_index, effects_end, effecting_refused, effecting_step}
use Rattle.members.proofs.Loops.{effecting_end}
use Rattle.members.proofs.methods.check_effects.Goals as goal

pub overflow_add-at-end : goal.overflow_add-at-end
overflow_add-at-end c = grind (arith, effects_end c.requires.lines)

pub first-c-requires : goal.first-c-requires
first-c-requires c =
    omega (arith, (effects_index c.requires.lines c.loop-at.at c.loop-at.auto.at c.loop-at-test.true).0)

pub overflow_cast-at : goal.overflow_cast-at
overflow_cast-at c =
    let j = effects_index c.requires.lines c.loop-at.at c.loop-at.auto.at c.loop-at-test.true in
    omega (arith, j.0, j.1)

pub overflow_add-at : goal.overflow_add-at
overflow_add-at c =
    let j = effects_index c.requires.lines c.loop-at.at c.loop-at.auto.at c.loop-at-test.true in
    omega (arith, j.0, j.1)

pub returns-in_err-check_effect : goal.returns-in_err-check_effect
returns-in_err-check_effect c = λ w.
    let e : c.from_residual.result ≡ Err c.in_err-check_effect.field-0.0 = search rules in
    e ∙ effecting_refused w.lines w.table.P _ _ (c.loop-at.invariant w) c.loop-at-test.true _ c.first-c.ensures _
    (c.in_err-check_effect.ensures w.table)

pub loop-at-preserved : goal.loop-at-preserved
loop-at-preserved c = λ w. effecting_step w.lines w.table.P _ _ (c.loop-at.invariant w) c.loop-at-test.true _
    c.first-c.ensures (c.in_ok-check_effect.ensures w.table)

pub returns : goal.returns
returns c = λ w. effecting_end w.lines w.table.P _ _ (c.loop-at.invariant w) c.loop-at-test.false

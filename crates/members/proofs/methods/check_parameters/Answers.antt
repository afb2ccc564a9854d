-- `members::methods::check_parameters` meets its contract. Assumes nothing.
use Rattle.std.proofs.Common.{arith, rules}
use Rattle.members.proofs.Loops.{types_index, types_end, declaring_refused, declaring_step}
use Rattle.members.proofs.Loops.{declaring_end}
use Rattle.members.proofs.methods.check_parameters.Goals as goal

pub overflow_add-at-end : goal.overflow_add-at-end
overflow_add-at-end c = grind (arith, types_end c.requires)

pub first-requires : goal.first-requires
first-requires c =
    omega (arith, (types_index c.requires c.loop-at.at c.loop-at.auto.at c.loop-at-test.true).0)

pub overflow_cast-result : goal.overflow_cast-result
overflow_cast-result c = let j = types_index c.requires c.loop-at.at c.loop-at.auto.at c.loop-at-test.true in
    omega (arith, j.0, j.1)

pub overflow_add-result : goal.overflow_add-result
overflow_add-result c = let j = types_index c.requires c.loop-at.at c.loop-at.auto.at c.loop-at-test.true in
    omega (arith, j.0, j.1)

pub returns-then-not-is_declared : goal.returns-then-not-is_declared
returns-then-not-is_declared c = λ w P e. declaring_refused w P _ (c.loop-at.invariant w P e) c.loop-at-test.true _
    c.first.ensures _ (c.is_declared.ensures P e) (search rules)

pub loop-at-preserved : goal.loop-at-preserved
loop-at-preserved c = λ w P e. declaring_step w P _ (c.loop-at.invariant w P e) c.loop-at-test.true _
    c.first.ensures _ (c.is_declared.ensures P e) (search rules)

pub returns : goal.returns
returns c = λ w P e. declaring_end w P _ (c.loop-at.invariant w P e) c.loop-at-test.false

-- `bodies::check_bodies` meets its contract: before each turn the methods so far have passed. Assumes nothing.
use native.Mathlib.Omega.{arith}
use lib.ListN.{length-set}
use lib.Seq.{get_or-set_same}
use Rattle.bodies.proofs.Starts.{ready_slots}
use Rattle.bodies.proofs.Passes.{going_start, going_method, going_on, going_refused}
use Rattle.bodies.proofs.Passes.{going_start_pre, going_start_refused, going_accepted}
use Rattle.expressions.proofs.Turns.{passed_on}
use Rattle.bodies.proofs.check_bodies.Goals as goal

pub loop-i-init : goal.loop-i-init
loop-i-init c = going_start

pub method-requires : goal.method-requires
method-requires c = going_method c.loop-i.invariant c.loop-i-test.true
    c.requires

pub returns-in_err-method : goal.returns-in_err-method
returns-in_err-method c = rw (passed_on c.from_residual.result c.from_residual.ensures.1)
    (going_refused c.loop-i.invariant c.loop-i-test.true c.method.ensures c.in_err-method.was)

pub loop-i-preserved : goal.loop-i-preserved
loop-i-preserved c = going_on c.loop-i.invariant c.loop-i-test.true c.method.ensures
    c.in_ok-method.was

pub bounds-slots-0 : goal.bounds-slots-0
bounds-slots-0 c = omega (arith, c.loop-i.invariant.slots_long, ready_slots c.requires)

pub overflow_add-start : goal.overflow_add-start
overflow_add-start c = omega (
  arith,
  c.requires.started,
  c.requires.headed.here.start_line.within,
  c.requires.headed.here.short,
)

pub expression-requires : goal.expression-requires
expression-requires c = going_start_pre c.loop-i.invariant c.loop-i-test.false
    (length-set c.loop-i.slots 0 4294967295)
    (get_or-set_same c.loop-i.slots 0 4294967295 0
    (omega (arith, c.loop-i.invariant.slots_long, ready_slots c.requires)))
    c.requires

pub returns-in_err-expression : goal.returns-in_err-expression
returns-in_err-expression c = rw (passed_on c.from_residual-in_err-expression.result
    c.from_residual-in_err-expression.ensures.1)
    (going_start_refused c.loop-i.invariant c.loop-i-test.false
    (length-set c.loop-i.slots 0 4294967295)
    (get_or-set_same c.loop-i.slots 0 4294967295 0
    (omega (arith, c.loop-i.invariant.slots_long, ready_slots c.requires)))
    c.expression.ensures c.in_err-expression.was)

pub returns : goal.returns
returns c = going_accepted c.loop-i.invariant c.loop-i-test.false
    (length-set c.loop-i.slots 0 4294967295)
    (get_or-set_same c.loop-i.slots 0 4294967295 0
    (omega (arith, c.loop-i.invariant.slots_long, ready_slots c.requires)))
    c.expression.ensures c.in_ok-expression.was

use native.Mathlib.Omega.{arith}
use Prim.Native.Nat.{◌-◌}
use mathlib.Core.Path.{◌≡◌, ◌∙◌}
use Rattle.objects.specs.Values.{outcome}
use Rattle.objects.proofs.Values.{outcome_value, outcome_failure, failure_raised}
use Rattle.machine.proofs.Checked.{told_gave, told_raised, only_stuck}
use Rattle.machine.proofs.end_told.Goals as goal

pub returns-then-o-lt-STUCK : goal.returns-then-o-lt-STUCK
returns-then-o-lt-STUCK c = told_gave (outcome_value c.args.o c.if-o-lt-STUCK.true) c.value_of.ensures

pub returns-in-17179869185 : goal.returns-in-17179869185
returns-in-17179869185 c = told_raised (outcome_failure c.args.o c.if-o-lt-STUCK.false
    ∙ failure_raised (c.args.o - 17179869184) (omega arith) (omega arith))

pub returns-in-17179869198 : goal.returns-in-17179869198
unfolding outcome
returns-in-17179869198 c = rw c.in-17179869198.is

pub returns-in-17179869199 : goal.returns-in-17179869199
unfolding outcome
returns-in-17179869199 c = rw c.in-17179869199.is

pub returns-in-17179869200 : goal.returns-in-17179869200
unfolding outcome
returns-in-17179869200 c = rw c.in-17179869200.is

pub returns-in_default : goal.returns-in_default
unfolding outcome
returns-in_default c =
    let e : c.args.o ≡ 17179869184 = only_stuck c.args.o c.if-o-lt-STUCK.false c.requires (λ e. omega arith)
    (λ e. omega arith) (λ e. omega arith) (λ e. omega arith) (λ e. omega arith) in
    rw e

pub returns-in_default-2 : goal.returns-in_default-2
unfolding outcome
returns-in_default-2 c =
    let e : c.args.o ≡ 17179869184 = only_stuck c.args.o c.if-o-lt-STUCK.false c.requires (λ e. omega arith)
    (λ e. omega arith) (λ e. omega arith) (λ e. omega arith) (λ e. omega arith) in
    rw e

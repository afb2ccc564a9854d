use Rattle.emitters.specs.Writing.{Extended}
use Rattle.emitters.proofs.slots.with_locals.Given as goal

abbrev pub invariant-loop-i : goal.invariant-loop-i
invariant-loop-i l =
    Extended l.scope.slots.now l.slots l.scope.variables l.scope.free l.i

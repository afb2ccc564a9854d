-- `terms::enter_days` meets its contract. Assumes nothing.
use Rattle.terms.proofs.Entering.{Entering}
use Rattle.terms.proofs.enter_days.Given as goal

abbrev pub invariant-loop-i : goal.invariant-loop-i
invariant-loop-i l = Entering l.days.first l.term.first l.term.last l.entry l.days.count l.initial.table l.table l.i

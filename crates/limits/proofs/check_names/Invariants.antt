use Rattle.limits.proofs.ReservedNames.{NamesWalked}
use Rattle.limits.proofs.check_names.Given as goal

abbrev pub invariant-loop-row : goal.invariant-loop-row
invariant-loop-row l = NamesWalked l.rows l.at l.count l.row

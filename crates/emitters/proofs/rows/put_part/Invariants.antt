use Rattle.emitters.proofs.Writing.{Putting}
use Rattle.emitters.proofs.rows.put_part.Given as goal

abbrev pub invariant-loop-line : goal.invariant-loop-line
invariant-loop-line l = Putting l.initial.out l.out l.lines l.place l.line-index l.end

-- `members::methods::effect_set` meets its contract. Assumes nothing.
use Rattle.members.proofs.Loops.{Collecting}
use Rattle.members.specs.Ready.{ClassLines}
use Rattle.members.proofs.methods.effect_set.Given as goal

abbrev pub invariant-loop-at : goal.invariant-loop-at
invariant-loop-at l = (w : ClassLines l.rows l.r l.n) → Collecting w l.set l.at

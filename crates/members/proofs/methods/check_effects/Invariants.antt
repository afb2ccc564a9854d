-- `members::methods::check_effects` meets its contract. Assumes nothing.
use Rattle.members.proofs.Loops.{Effecting}
use Rattle.members.specs.Ready.{EffectsReady}
use Rattle.members.proofs.methods.check_effects.Given as goal

abbrev pub invariant-loop-at : goal.invariant-loop-at
invariant-loop-at l = (w : EffectsReady l.rows l.tables l.r l.n l.count)
    → Effecting w.lines w.table.P l.last l.at

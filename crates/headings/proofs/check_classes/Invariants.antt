-- `headings::check_classes` meets its contract. Assumes nothing.
use Rattle.headings.proofs.Whole.{Going}
use Rattle.headings.specs.Ready.{ClassesReady}
use Rattle.headings.proofs.check_classes.Given as goal

abbrev pub invariant-loop-k : goal.invariant-loop-k
invariant-loop-k l =
    (w : ClassesReady l.rows l.ends l.initial.tables l.initial.above l.initial.methods l.initial.effects l.count)
    → Going w l.tables l.above l.methods l.effects l.k l.r l.next

-- `members::methods::check_methods` meets its contract. Assumes nothing.
use Prim.Native.Nat.{◌-◌}
use lib.ListN.{length}
use Rattle.members.proofs.Entering.{Entering}
use Rattle.members.specs.Ready.{MethodsReady}
use Rattle.members.proofs.methods.check_methods.Given as goal

abbrev pub invariant-loop-tables : goal.invariant-loop-tables
invariant-loop-tables l =
    (w : MethodsReady l.rows l.ends l.initial.tables l.initial.methods l.initial.effects l.r l.owner.class l.owner.first l.owner.classes)
    → Entering w l.tables l.methods l.effects l.at l.next

abbrev pub decreases-loop-tables : goal.decreases-loop-tables
decreases-loop-tables l = length l.rows - l.at

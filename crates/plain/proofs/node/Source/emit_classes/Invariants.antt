use Prim.Native.Nat.{◌-◌}
use Rattle.plain.proofs.Classes.{ClassesLeft}
use Rattle.plain.proofs.node.Source.emit_classes.Given as goal

abbrev pub invariant-loop-out : goal.invariant-loop-out
invariant-loop-out l =
    ClassesLeft l.self.rows.now l.self.tables.now l.self.methods.now l.self.lookups.now l.initial.out l.out l.at
    l.place l.next.place l.next.at

abbrev pub decreases-loop-out : goal.decreases-loop-out
decreases-loop-out l = 60000 - l.next.at

use Prim.Native.Nat.{◌-◌}
use Rattle.plain.proofs.Methods.{MethodsLeft}
use Rattle.plain.proofs.node.Source.emit_methods.Given as goal

abbrev pub invariant-loop-parameters : goal.invariant-loop-parameters
invariant-loop-parameters l =
    MethodsLeft l.self.rows.now l.self.tables.now l.self.methods.now l.self.lookups.now l.initial.out l.out l.at
    l.place l.next.place l.next.at

abbrev pub decreases-loop-parameters : goal.decreases-loop-parameters
decreases-loop-parameters l = 60000 - l.next.at

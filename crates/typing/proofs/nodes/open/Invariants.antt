-- `typing::nodes::open` meets its contract. Assumes nothing.
use Prim.Native.Nat.{◌-◌}
use Rattle.typing.proofs.OpenLaws.{OpenLeft}
use Rattle.typing.proofs.nodes.open.Given as goal

abbrev pub invariant-loop-i : goal.invariant-loop-i
invariant-loop-i l = OpenLeft l.rows l.initial.slots l.slots l.scope.count l.at l.scope.size l.v l.i

abbrev pub decreases-loop-i : goal.decreases-loop-i
decreases-loop-i l = l.v - l.i

-- The measure of the cycle: the rows after the one at which a member stands; of members at one row, who calls whom.
use Prim.Native.Nat.{◌+◌, ◌-◌, ◌*◌}
use Rattle.plain.proofs.Nodes.{NodesLeft, ArgumentsLeft}
use Rattle.plain.proofs.node.Source.+nodes.Given as goal

abbrev pub decreases-emit_arguments : goal.decreases-emit_arguments
decreases-emit_arguments l = (60000 - l.at) * 4 + 2

abbrev pub decreases-emit_block : goal.decreases-emit_block
decreases-emit_block l = (60000 - l.at) * 4

abbrev pub decreases-emit_call : goal.decreases-emit_call
decreases-emit_call l = (60000 - l.at) * 4

abbrev pub decreases-emit_cast : goal.decreases-emit_cast
decreases-emit_cast l = (60000 - l.at) * 4

abbrev pub decreases-emit_node : goal.decreases-emit_node
decreases-emit_node l = (60000 - l.at) * 4 + 1

abbrev pub decreases-emit_nodes : goal.decreases-emit_nodes
decreases-emit_nodes l = (60000 - l.at) * 4 + 2

abbrev pub decreases-emit_set : goal.decreases-emit_set
decreases-emit_set l = (60000 - l.at) * 4

abbrev pub invariant-emit_nodes-loop : goal.invariant-emit_nodes-loop
invariant-emit_nodes-loop l =
    NodesLeft l.self.rows.now l.self.tables.now l.self.methods.now l.self.lookups.now l.scope.slots.now
    l.initial.out l.out l.at l.scope.variables l.scope.free l.place l.count l.next.place l.next.at
    (l.count - l.counter)

abbrev pub invariant-emit_arguments-loop-temporary : goal.invariant-emit_arguments-loop-temporary
invariant-emit_arguments-loop-temporary l =
    ArgumentsLeft l.self.rows.now l.self.tables.now l.self.methods.now l.self.lookups.now l.scope.slots.now
    l.initial.out l.out l.at l.scope.variables l.scope.free l.place l.count l.slot l.next.place l.next.at
    (l.slot + l.count - l.temporary) l.temporary

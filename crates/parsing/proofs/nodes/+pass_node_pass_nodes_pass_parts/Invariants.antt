-- The measures of the cycle: the nesting left, then the order parts, nodes, node. Between two nodes, what is left to read
-- tells of the whole. Assumes nothing.
use Prim.Native.Nat.{◌+◌, ◌-◌, ◌*◌}
use Rattle.parsing.proofs.NodeLaws.{Reading}
use Rattle.parsing.specs.Columns.{most_of}
use Rattle.language.specs.Form.{node}
use Rattle.parsing.proofs.nodes.+pass_node_pass_nodes_pass_parts.Given as goal

abbrev pub decreases-pass_node : goal.decreases-pass_node
decreases-pass_node l = l.nesting * 4

abbrev pub decreases-pass_nodes : goal.decreases-pass_nodes
decreases-pass_nodes l = l.nesting * 4 + 1

abbrev pub invariant-pass_nodes-loop : goal.invariant-pass_nodes-loop
invariant-pass_nodes-loop l = Reading l.limits l.rows l.initial.ends l.ends
    (λ at rs. node (most_of l.limits) l.nesting l.slots at rs) l.at l.count l.i (l.count - l.counter)

abbrev pub decreases-pass_parts : goal.decreases-pass_parts
decreases-pass_parts l = l.nesting * 4 + 2

use Rattle.plain.proofs.Bodies.{body_some, body_done}
use native.Mathlib.Omega.{arith}
use Rattle.plain.proofs.node.Source.emit_body.Goals as goal

pub emit_node-requires : goal.emit_node-requires
emit_node-requires c = body_some c.requires _ c.first_slots-slots.ensures _ _ (omega arith) (omega arith)

pub returns : goal.returns
returns c = body_done _ c.first_slots-slots.ensures _ _ (omega arith) (omega arith)
    c.emit_node.ensures

use Rattle.plain.proofs.Methods.{method_ended, method_body, method_done}
use Rattle.plain.proofs.node.Source.emit_method.Goals as goal

pub emit_body-requires : goal.emit_body-requires
emit_body-requires c = method_body c.requires _
    (method_ended c.requires c.put-p.ensures c.put_types-q.ensures)

pub returns : goal.returns
returns c = method_done c.first.ensures c.plain_type-t.ensures c.second.ensures
    c.put-p.ensures c.put_types-q.ensures c.emit_body.ensures

use native.Mathlib.Omega.{arith}
use Rattle.plain.proofs.Classes.{class_known, class_run, class_fields, class_some, class_done}
use Rattle.plain.proofs.node.Source.emit_class.Goals as goal

pub overflow_add-second : goal.overflow_add-second
overflow_add-second c = omega (arith, (class_known c.requires).2, c.second.ensures)

pub put-p-requires : goal.put-p-requires
put-p-requires c = omega (arith, (class_known c.requires).3)

pub count_rows-n-requires : goal.count_rows-n-requires
count_rows-n-requires c = class_run c.requires

pub put_fields-q-requires : goal.put_fields-q-requires
put_fields-q-requires c = let d = class_fields c.count_rows-n.ensures c.requires _ c.put-p.ensures.ended in
    record {
      some_field_lines = d.0;
      count_bound = d.1;
    }

pub emit_methods-requires : goal.emit_methods-requires
emit_methods-requires c = class_some c.count_rows-n.ensures c.put-p.ensures
    c.put_fields-q.ensures c.requires

pub returns : goal.returns
returns c = class_done c.count_rows-n.ensures c.put-p.ensures
    c.put_fields-q.ensures
    (omega (arith, c.second.ensures)) c.emit_methods.ensures

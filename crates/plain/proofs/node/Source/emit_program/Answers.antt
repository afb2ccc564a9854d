use Rattle.plain.proofs.Programs.{program_some_classes, program_room, program_some_body, program_done}
use native.Mathlib.Omega.{arith}
use Rattle.plain.proofs.node.Source.emit_program.Goals as goal

pub emit_classes-c-requires : goal.emit_classes-c-requires
emit_classes-c-requires c = program_some_classes c.requires _ (omega (arith, c.put-p.ensures.ended))

pub put-q-requires : goal.put-q-requires
put-q-requires c = omega (arith, (program_room c.put-p.ensures c.emit_classes-c.ensures c.requires).0)

pub overflow_add-c : goal.overflow_add-c
overflow_add-c c = omega (arith, (program_room c.put-p.ensures c.emit_classes-c.ensures c.requires).1)

pub emit_body-n-requires : goal.emit_body-n-requires
emit_body-n-requires c = program_some_body c.put-p.ensures c.emit_classes-c.ensures c.requires c.put-q.ensures

pub returns : goal.returns
returns c = program_done c.put-p.ensures c.emit_classes-c.ensures c.put-q.ensures
    c.emit_body-n.ensures

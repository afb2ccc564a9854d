use Rattle.std.proofs.Common.{◌+◌, ◌-◌}
use native.Mathlib.Omega.{arith}
use Rattle.emitters.proofs.Lines.{field_in, field_none, field_more}
use Rattle.emitters.proofs.rows.put_fields.Goals as goal

pub overflow_add-row-end : goal.overflow_add-row-end
overflow_add-row-end c = grind (arith, field_in c.requires.some_field_lines (c.args.at + c.args.count - 1))

pub loop-row-init : goal.loop-row-init
loop-row-init c = (field_none (omega arith), omega arith)

pub first-requires : goal.first-requires
first-requires c =
    omega (arith, field_in c.requires.some_field_lines c.loop-row.row (omega arith) (omega arith))

pub field_name-requires : goal.field_name-requires
field_name-requires c =
    omega (arith, field_in c.requires.some_field_lines c.loop-row.row (omega arith) (omega arith))

pub loop-row-preserved : goal.loop-row-preserved
loop-row-preserved c = (
  field_more (omega arith) (omega arith) c.first.ensures c.plain_type-t.ensures c.field_name.ensures
      c.loop-row.invariant.0 c.put-end.ensures,
  omega arith,
)

use Rattle.std.proofs.Common.{◌+◌, ◌-◌}
use native.Mathlib.Omega.{arith}
use Rattle.emitters.proofs.Lines.{fields_in, copies_none, copies_more}
use Rattle.emitters.proofs.changes.put_copies.Goals as goal

pub overflow_add-entry-end : goal.overflow_add-entry-end
overflow_add-entry-end c = grind (arith, fields_in c.requires.some_fields (c.args.from + c.args.count - 1))

pub loop-entry-init : goal.loop-entry-init
loop-entry-init c = (copies_none (omega arith), omega arith)

pub offset_bounds-tables-entry : goal.offset_bounds-tables-entry
offset_bounds-tables-entry c =
    omega (arith, fields_in c.requires.some_fields c.loop-entry.entry (omega arith) (omega arith))

pub bounds-tables-entry : goal.bounds-tables-entry
bounds-tables-entry c =
    omega (arith, fields_in c.requires.some_fields c.loop-entry.entry (omega arith) (omega arith))

pub field_name-name-requires : goal.field_name-name-requires
field_name-name-requires c =
    omega (arith, fields_in c.requires.some_fields c.loop-entry.entry (omega arith) (omega arith))

pub loop-entry-preserved : goal.loop-entry-preserved
loop-entry-preserved c = (
  copies_more (omega arith) (omega arith) c.from.ensures c.field_name-name.ensures c.loop-entry.invariant.0
      c.put-end.ensures,
  omega arith,
)

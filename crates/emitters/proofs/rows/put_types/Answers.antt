use Rattle.std.proofs.Common.{◌+◌, ◌-◌}
use native.Mathlib.Omega.{arith}
use Rattle.emitters.proofs.Lines.{types_in, types_none, types_more}
use Rattle.emitters.proofs.rows.put_types.Goals as goal

pub overflow_add-row-end : goal.overflow_add-row-end
overflow_add-row-end c = grind (arith, types_in c.requires.some_types (c.args.at + c.args.count - 1))

pub loop-row-init : goal.loop-row-init
loop-row-init c = (types_none (omega arith), omega arith)

pub first-requires : goal.first-requires
first-requires c =
    omega (arith, types_in c.requires.some_types c.loop-row.row (omega arith) (omega arith))

pub loop-row-preserved : goal.loop-row-preserved
loop-row-preserved c = (
  types_more (omega arith) (omega arith) c.first.ensures c.plain_type-t.ensures c.loop-row.invariant.0
      c.put-end.ensures,
  omega arith,
)

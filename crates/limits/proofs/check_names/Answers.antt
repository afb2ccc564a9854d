use Rattle.std.proofs.Common.{◌+◌, ◌-◌}
use native.Mathlib.Omega.{arith}
use Rattle.emitters.proofs.Lines.{field_in}
use Rattle.limits.proofs.ReservedNames.{names_row, names_end, names_stop, names_more}
use Rattle.limits.proofs.check_names.Goals as goal

pub overflow_add-row-end : goal.overflow_add-row-end
overflow_add-row-end c = grind (arith, field_in c.requires.0 (c.args.at + c.args.count - 1))

pub field_name-name-requires : goal.field_name-name-requires
field_name-name-requires c = omega (arith, names_row c.args.count c.loop-row.invariant (omega arith))

pub returns-then-name-eq-ID : goal.returns-then-name-eq-ID
returns-then-name-eq-ID c =
    names_stop c.args.count c.loop-row.invariant (omega arith) c.field_name-name.ensures c.then-name-eq-ID.either

pub loop-row-preserved : goal.loop-row-preserved
loop-row-preserved c = names_more c.args.count c.loop-row.invariant (omega arith) c.field_name-name.ensures
    c.if-name-eq-ID.false c.if-name-eq-IMP.false

pub returns : goal.returns
returns c = names_end c.args.count c.loop-row.invariant (omega arith)

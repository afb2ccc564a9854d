use mathlib.Core.Path.{sym, ◌∙◌}
use native.Mathlib.Omega.{arith}
use Rattle.limits.proofs.FieldLimits.{counted_known, counted_above, counted_run, counted_stand}
use Rattle.limits.proofs.FieldLimits.{fields_end, fields_stop, fields_more}
use Rattle.limits.proofs.check_fields.Goals as goal

pub class_entry-inherited-requires : goal.class_entry-inherited-requires
class_entry-inherited-requires c =
    omega (arith, counted_above c.loop-inherited.invariant.rest (sym c.letter_at.ensures ∙ c.loop-inherited-test.true))

pub count_rows-n-requires : goal.count_rows-n-requires
count_rows-n-requires c =
    counted_run c.loop-inherited.invariant.rest (sym c.letter_at.ensures ∙ c.loop-inherited-test.true)

pub returns-then-room-n : goal.returns-then-room-n
returns-then-room-n c =
    fields_stop c.loop-inherited.invariant (sym c.letter_at.ensures ∙ c.loop-inherited-test.true)
    c.count_rows-n.ensures c.second.ensures c.class_entry-inherited.ensures c.saturating_sub-room.ensures _ (omega arith) c.if-room-n.true

pub after_methods-row-requires : goal.after_methods-row-requires
after_methods-row-requires c =
    counted_stand c.count_rows-n.ensures (sym c.letter_at.ensures ∙ c.loop-inherited-test.true) c.second.ensures
    c.class_entry-inherited.ensures c.saturating_sub-room.ensures c.loop-inherited.invariant.rest

pub loop-inherited-smaller : goal.loop-inherited-smaller
loop-inherited-smaller c =
    let x = fields_more c.loop-inherited.invariant (sym c.letter_at.ensures ∙ c.loop-inherited-test.true)
    c.count_rows-n.ensures c.second.ensures c.class_entry-inherited.ensures c.saturating_sub-room.ensures
    c.if-room-n.false c.after_methods-row.ensures in
    omega (arith, counted_known c.loop-inherited.invariant.rest, x.1)

pub loop-inherited-preserved : goal.loop-inherited-preserved
loop-inherited-preserved c =
    (fields_more c.loop-inherited.invariant (sym c.letter_at.ensures ∙ c.loop-inherited-test.true)
    c.count_rows-n.ensures c.second.ensures c.class_entry-inherited.ensures c.saturating_sub-room.ensures
    c.if-room-n.false c.after_methods-row.ensures).0

pub returns : goal.returns
returns c =
    fields_end c.loop-inherited.invariant (λ e. c.loop-inherited-test.false (c.letter_at.ensures ∙ e))

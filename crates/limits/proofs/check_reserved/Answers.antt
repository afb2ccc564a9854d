use mathlib.Core.Path.{sym, ◌∙◌}
use native.Mathlib.Omega.{arith}
use Rattle.limits.proofs.Standing.{class_known, class_run, class_fields, class_stand}
use Rattle.limits.proofs.ReservedNames.{classes_end, classes_stop, classes_more}
use Rattle.std.proofs.lemmas.Result.{err_from_is_err_and}
use Rattle.limits.proofs.check_reserved.Goals as goal

pub count_rows-n-requires : goal.count_rows-n-requires
count_rows-n-requires c = class_run (sym c.letter_at.ensures ∙ c.loop-fields-test.true) c.loop-fields.invariant.rest

pub check_names-requires : goal.check_names-requires
check_names-requires c = (
  class_fields (sym c.letter_at.ensures ∙ c.loop-fields-test.true) c.count_rows-n.ensures
      c.loop-fields.invariant.rest,
  (class_known c.loop-fields.invariant.rest).2,
)

pub returns-in_err-check_names : goal.returns-in_err-check_names
returns-in_err-check_names c =
    let p = err_from_is_err_and c.from_residual.result c.from_residual.ensures.1 in
    rw (p.1, p.2) (classes_stop c.loop-fields.invariant (sym c.letter_at.ensures ∙ c.loop-fields-test.true)
    c.count_rows-n.ensures (rw c.in_err-check_names.was at c.check_names.ensures))

pub after_methods-row-requires : goal.after_methods-row-requires
after_methods-row-requires c =
    class_stand (sym c.letter_at.ensures ∙ c.loop-fields-test.true) c.count_rows-n.ensures
    c.loop-fields.invariant.rest

pub loop-fields-smaller : goal.loop-fields-smaller
loop-fields-smaller c =
    let x = classes_more c.loop-fields.invariant (sym c.letter_at.ensures ∙ c.loop-fields-test.true)
    c.count_rows-n.ensures (rw c.in_ok-check_names.was at c.check_names.ensures) c.after_methods-row.ensures in
    omega (arith, class_known c.loop-fields.invariant.rest, x.1)

pub loop-fields-preserved : goal.loop-fields-preserved
loop-fields-preserved c =
    (classes_more c.loop-fields.invariant (sym c.letter_at.ensures ∙ c.loop-fields-test.true)
    c.count_rows-n.ensures (rw c.in_ok-check_names.was at c.check_names.ensures) c.after_methods-row.ensures).0

pub returns : goal.returns
returns c = classes_end c.loop-fields.invariant (λ e. c.loop-fields-test.false (c.letter_at.ensures ∙ e))

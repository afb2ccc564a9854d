-- A method: its P lines, its X lines, its body, and the entry of its M line last. Assumes nothing.
use mathlib.Core.Path.{refl}
use Prim.Native.Nat.{◌+◌, ◌-◌}
use native.Mathlib.Omega.{arith}
use Rattle.std.proofs.lemmas.Result.{err_from_is_err_and}
use Rattle.parsing.specs.Places.{rows_from}
use Rattle.language.specs.Form.{body}
use Rattle.parsing.specs.Columns.{most_of}
use Rattle.parsing.proofs.Passes.{told_end}
use Rattle.parsing.proofs.Headings.{method_over, method_stop, method_close}
use Rattle.parsing.proofs.classes.pass_method.Goals as goal

pub returns-then-parameters-gt-MOST_PARAMETERS : goal.returns-then-parameters-gt-MOST_PARAMETERS
returns-then-parameters-gt-MOST_PARAMETERS c = λ x. rw c.refusal_at.ensures
    (method_over c.args.limits c.args.rows.now c.args.at x
    c.pass_lines-effects.result c.pass_lines-effects.ensures.0
    (c.pass_lines-effects.result - c.args.at - 1) refl c.if-parameters-gt-MOST_PARAMETERS.true (omega arith))

pub returns-in_err-next : goal.returns-in_err-next
returns-in_err-next c =
    let p = err_from_is_err_and c.from_residual.result c.from_residual.ensures.1 in
    λ x. rw (p.1, p.2) (method_stop c.args.limits c.args.rows.now c.args.at x
    c.pass_lines-effects.result c.pass_lines-effects.ensures.0
    (c.pass_lines-effects.result - c.args.at - 1) refl c.if-parameters-gt-MOST_PARAMETERS.false
    c.pass_lines-body.result c.pass_lines-body.ensures.0 c.in_err-next.ensures refl)

pub overflow_cast-ends : goal.overflow_cast-ends
overflow_cast-ends c = told_end (body (most_of c.args.limits) ((c.pass_lines-effects.result - c.args.at - 1) + 1)
    (c.pass_lines-body.result + 1) (rows_from c.args.rows.now c.pass_lines-body.result))
    c.in_ok-next.ensures refl λ e x y w o z. omega arith

pub returns : goal.returns
returns c = λ x. method_close c.args.limits c.args.rows.now c.args.at x
    c.pass_lines-effects.result c.pass_lines-effects.ensures.0
    (c.pass_lines-effects.result - c.args.at - 1) refl c.if-parameters-gt-MOST_PARAMETERS.false
    c.pass_lines-body.result c.pass_lines-body.ensures.0 c.pass_lines-effects.ensures.1
    c.pass_lines-body.ensures.1 c.in_ok-next.ensures refl

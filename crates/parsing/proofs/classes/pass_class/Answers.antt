-- A class: its F lines, its methods, and the entry of its C line last. Assumes nothing.
use mathlib.Core.Path.{refl}
use Prim.Native.Nat.{◌+◌}
use native.Mathlib.Omega.{arith}
use lib.ListN.{length}
use Rattle.std.proofs.lemmas.Result.{err_from_is_err_and}
use Rattle.parsing.specs.Places.{rows_from}
use Rattle.language.specs.Form.{methods}
use Rattle.parsing.specs.Columns.{most_of}
use Rattle.parsing.proofs.Passes.{told_end}
use Rattle.parsing.proofs.ClassLaws.{class_stop, class_close}
use Rattle.parsing.proofs.classes.pass_class.Goals as goal

pub returns-in_err-next : goal.returns-in_err-next
returns-in_err-next c =
    let p = err_from_is_err_and c.from_residual.result c.from_residual.ensures.1 in
    λ x. rw (p.1, p.2) (class_stop c.args.limits c.args.rows.now c.args.at x
    c.pass_lines-methods.result c.pass_lines-methods.ensures.0 c.in_err-next.ensures refl)

pub overflow_cast-ends : goal.overflow_cast-ends
overflow_cast-ends c = told_end (methods (most_of c.args.limits)
    (length (rows_from c.args.rows.now c.pass_lines-methods.result)) (c.pass_lines-methods.result + 1)
    (rows_from c.args.rows.now c.pass_lines-methods.result))
    (c.in_ok-next.ensures (length (rows_from c.args.rows.now c.pass_lines-methods.result))
    (omega arith)) refl λ e x y w o z. omega arith

pub returns : goal.returns
returns c = λ x. class_close c.args.limits c.args.rows.now c.args.at x
    c.pass_lines-methods.result c.pass_lines-methods.ensures.0 c.in_ok-next.ensures
    c.pass_lines-methods.ensures.1 refl

-- The end: nothing follows, or the first row that does is refused. Assumes nothing.
use mathlib.Core.Path.{sym}
use native.Mathlib.Omega.{arith}
use Rattle.std.proofs.lemmas.Result.{err_from_is_err_and}
use Rattle.parsing.proofs.Places.{here}
use Rattle.form.proofs.Start.{finished, not_finished, more_follows}
use Rattle.form.proofs.finish.Goals as goal

pub returns-then-rows-at : goal.returns-then-rows-at
returns-then-rows-at c = λ p n s. finished c.args.limits c.args.rows.now c.args.at c.args.classes c.args.start p n s
    c.if-rows-at.true

pub returns-in_err-check_row : goal.returns-in_err-check_row
returns-in_err-check_row c =
    let r = err_from_is_err_and c.from_residual.result c.from_residual.ensures.1 in
    λ p n s. rw (r.1, r.2) (not_finished c.args.limits c.args.rows.now c.args.at c.args.classes c.args.start p n s
    (omega arith) (sym c.in_err-check_row.ensures.0))

pub returns : goal.returns
returns c = λ p n s. rw c.refusal_at.ensures (more_follows c.args.limits c.args.rows.now c.args.at
    c.args.classes c.args.start p n s (omega arith)
    (here c.args.rows.now c.args.at (sym c.in_ok-check_row.ensures.0) c.in_ok-check_row.ensures.1))

-- `checker::check_rows` meets its contract. Assumes nothing.
use Rattle.std.proofs.lemmas.Result.{err_from_is_err_and}
use Rattle.checker.proofs.Verdicts.{verdict_accepted, verdict_refused}
use Rattle.checker.proofs.check_rows.Goals as goal

pub returns-in_err-check_above : goal.returns-in_err-check_above
returns-in_err-check_above c =
    let p = err_from_is_err_and c.from_residual.result c.from_residual.ensures.1 in
    rw (p.1, p.2) (verdict_refused c.args.rows.now c.in_err-check_above.ensures.answer)

pub returns : goal.returns
returns c = verdict_accepted c.args.rows.now c.in_ok-check_above.ensures.answer

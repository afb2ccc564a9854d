-- `running::run_classes` meets its contract. Assumes nothing.
use Rattle.std.proofs.lemmas.Result.{err_from_is_err_and}
use Rattle.running.proofs.Running.{answers, not_accepted}
use Rattle.running.proofs.run_classes.Goals as goal

pub returns-in_err-check_formed : goal.returns-in_err-check_formed
returns-in_err-check_formed g c =
    let p = err_from_is_err_and c.from_residual.result c.from_residual.ensures.1 in
    rw (p.1, p.2) (not_accepted c.args.rows.now c.args.store.now c.args.fuel
    c.requires.fuel_le_most_fuel c.in_err-check_formed.ensures.answer)

pub returns : goal.returns
returns g c = answers c.in_ok-check_formed.ensures c.requires.fuel_le_most_fuel c.run_checked-run.ensures

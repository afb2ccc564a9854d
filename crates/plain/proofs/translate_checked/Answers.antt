use Rattle.std.proofs.lemmas.Result.{err_from_is_err_and}
use Rattle.plain.proofs.Answers.{accepted_stand, answer_limits, answer_names, answer_some, answer_plain}
use Rattle.plain.proofs.translate_checked.Goals as goal

pub returns-in_err-check_limits : goal.returns-in_err-check_limits
returns-in_err-check_limits c =
    let p = err_from_is_err_and c.from_residual.result c.from_residual.ensures.1 in
    rw (p.1, p.2) (answer_limits c.requires _ (rw c.in_err-check_limits.was at c.check_limits.ensures))

pub check_reserved-requires : goal.check_reserved-requires
check_reserved-requires c = accepted_stand c.requires

pub returns-in_err-check_reserved : goal.returns-in_err-check_reserved
returns-in_err-check_reserved c =
    let p = err_from_is_err_and c.from_residual-in_err-check_reserved.result c.from_residual-in_err-check_reserved.ensures.1 in
    rw (p.1, p.2) (answer_names c.requires _ (rw c.in_ok-check_limits.was at c.check_limits.ensures)
    (rw c.in_err-check_reserved.was at c.check_reserved.ensures))

pub write_plain-requires : goal.write_plain-requires
write_plain-requires c = answer_some c.requires c.args.out.now (rw c.in_ok-check_limits.was at c.check_limits.ensures)
    (rw c.in_ok-check_reserved.was at c.check_reserved.ensures)

pub returns : goal.returns
returns c = answer_plain c.requires _ (rw c.in_ok-check_limits.was at c.check_limits.ensures)
    (rw c.in_ok-check_reserved.was at c.check_reserved.ensures) c.write_plain.ensures

-- `translator::translate_classes` meets its contract. Assumes nothing.
use native.Mathlib.Omega.{arith}
use Rattle.std.proofs.lemmas.Result.{err_from_is_err_and}
use Rattle.passes.proofs.Passing.{checked_refused}
use Rattle.translator.proofs.Translating.{some_accepted, translation_refused}
use Rattle.translator.proofs.translate_classes.Goals as goal

pub returns-in_err-check_formed : goal.returns-in_err-check_formed
returns-in_err-check_formed g c =
    let p = err_from_is_err_and c.from_residual.result c.from_residual.ensures.1 in
    rw (p.1, p.2) (translation_refused c.args.rows.now _
    (checked_refused _ _ c.in_err-check_formed.ensures.answer))

pub translate_checked-requires : goal.translate_checked-requires
translate_checked-requires g c = some_accepted (omega arith) c.in_ok-check_formed.ensures

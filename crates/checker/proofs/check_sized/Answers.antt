-- `checker::check_sized` meets its contract. Assumes nothing.
use Rattle.std.proofs.lemmas.Result.{err_from_is_err_and}
use Rattle.passes.proofs.Passing.{stands, not_in_form, refuses_above, all_classes}
use Rattle.checker.proofs.check_sized.Goals as goal

pub returns-in_err-formed : goal.returns-in_err-formed
returns-in_err-formed g c =
    let p = err_from_is_err_and c.from_residual.result c.from_residual.ensures.1 in
    rw (p.1, p.2) (refuses_above c.args.rows.now _
    (not_in_form c.args.rows.now c.requires.room.whole _ c.in_err-formed.ensures.0))

pub check_classes-requires-clause-stands : goal.check_classes-requires-clause-stands
check_classes-requires-clause-stands g c = stands c.args.rows.now c.requires.room.whole _ _ _
    c.in_ok-formed.ensures.0 c.in_ok-formed.ensures.1

pub check_classes-requires-else-few-clause-stands :
    goal.check_classes-requires-else-few-clause-stands
check_classes-requires-else-few-clause-stands g c = stands c.args.rows.now c.requires.room.whole
    _ _ _ c.in_ok-formed.ensures.0 c.in_ok-formed.ensures.1

pub check_classes-requires-else-few-clause-class_room :
    goal.check_classes-requires-else-few-clause-class_room
check_classes-requires-else-few-clause-class_room g c = all_classes _
    (stands c.args.rows.now c.requires.room.whole _ _ _ c.in_ok-formed.ensures.0 c.in_ok-formed.ensures.1)
    c.requires.classes_in_bounds

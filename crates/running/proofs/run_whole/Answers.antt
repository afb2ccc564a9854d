-- `running::run_whole` meets its contract. Assumes nothing.
use lib.ListN.{replicate}
use Rattle.std.proofs.lemmas.Result.{err_from_is_err_and}
use Rattle.language.proofs.Filling.{replicate_long}
use Rattle.running.proofs.Running.{check_refuses}
use Rattle.passes.proofs.Passing.{stands, not_in_form, all_classes}
use Rattle.running.proofs.run_whole.Goals as goal

pub returns-in_err-formed : goal.returns-in_err-formed
returns-in_err-formed c =
    let p = err_from_is_err_and c.from_residual.result c.from_residual.ensures.1 in
    rw (p.1, p.2) (check_refuses c.args.rows.now c.args.store.now c.args.fuel c.requires.fuel_le_most_fuel
    (not_in_form c.args.rows.now c.requires.room.whole _ c.in_err-formed.ensures.0))

pub run_classes-requires-clause-stands : goal.run_classes-requires-clause-stands
run_classes-requires-clause-stands c = stands c.args.rows.now c.requires.room.whole _ _ _
    c.in_ok-formed.ensures.0 c.in_ok-formed.ensures.1

pub run_classes-requires-else-few-clause-stands :
    goal.run_classes-requires-else-few-clause-stands
run_classes-requires-else-few-clause-stands c = stands c.args.rows.now c.requires.room.whole
    _ _ _ c.in_ok-formed.ensures.0 c.in_ok-formed.ensures.1

pub run_classes-requires-else-few-clause-class_room :
    goal.run_classes-requires-else-few-clause-class_room
run_classes-requires-else-few-clause-class_room c = all_classes (replicate 65 0)
    (stands c.args.rows.now c.requires.room.whole _ _ _ c.in_ok-formed.ensures.0 c.in_ok-formed.ensures.1)
    (replicate_long 65)

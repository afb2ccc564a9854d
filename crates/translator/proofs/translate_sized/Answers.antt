-- `translator::translate_sized` meets its contract. Assumes nothing.
use lib.ListN.{replicate}
use Rattle.std.proofs.lemmas.Result.{err_from_is_err_and}
use Rattle.language.proofs.Filling.{replicate_long}
use Rattle.passes.proofs.Passing.{stands, not_in_form, all_classes}
use Rattle.translator.proofs.Translating.{translation_refused}
use Rattle.translator.proofs.translate_sized.Goals as goal

pub returns-in_err-formed : goal.returns-in_err-formed
returns-in_err-formed g c =
    let p = err_from_is_err_and c.from_residual.result c.from_residual.ensures.1 in
    rw (p.1, p.2) (translation_refused c.args.rows.now _
    (not_in_form c.args.rows.now c.requires.room.whole _ c.in_err-formed.ensures.0))

pub translate_classes-requires-clause-stands : goal.translate_classes-requires-clause-stands
translate_classes-requires-clause-stands g c = stands c.args.rows.now c.requires.room.whole _ _ _
    c.in_ok-formed.ensures.0 c.in_ok-formed.ensures.1

pub translate_classes-requires-else-few-clause-stands :
    goal.translate_classes-requires-else-few-clause-stands
translate_classes-requires-else-few-clause-stands g c = stands c.args.rows.now
    c.requires.room.whole _ _ _ c.in_ok-formed.ensures.0 c.in_ok-formed.ensures.1

pub translate_classes-requires-else-few-clause-class_room :
    goal.translate_classes-requires-else-few-clause-class_room
translate_classes-requires-else-few-clause-class_room g c = all_classes (replicate 65 0)
    (stands c.args.rows.now c.requires.room.whole _ _ _ c.in_ok-formed.ensures.0 c.in_ok-formed.ensures.1)
    (replicate_long 65)

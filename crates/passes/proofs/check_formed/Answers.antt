-- `passes::check_formed` meets its contract. Assumes nothing.
use Rattle.passes.proofs.Passing.{body_short, body_few, body_many}
use Rattle.passes.proofs.check_formed.Goals as goal

pub check_sized-requires-clause-body_room : goal.check_sized-requires-clause-body_room
check_sized-requires-clause-body_room c = body_short _ c.if-rows-le-SHORT_NUMBERS.true

pub check_sized-requires-then-rows-le-FEW_NUMBERS-clause-body_room :
    goal.check_sized-requires-then-rows-le-FEW_NUMBERS-clause-body_room
check_sized-requires-then-rows-le-FEW_NUMBERS-clause-body_room c = body_few _ c.if-rows-le-FEW_NUMBERS.true

pub check_sized-requires-2-clause-body_room : goal.check_sized-requires-2-clause-body_room
check_sized-requires-2-clause-body_room c = body_many _

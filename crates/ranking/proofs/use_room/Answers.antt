-- `ranking::use_room` meets its contract. Assumes nothing.
use Rattle.ranking.proofs.Measuring.{room_used, room_none}
use Rattle.ranking.proofs.use_room.Goals as goal

pub returns-in_err-left : goal.returns-in_err-left
returns-in_err-left c = λ bytes ds m. rw c.from_residual.ensures (room_none bytes ds _ (rw c.in_err-left.was at m))

pub returns : goal.returns
returns c = λ bytes ds m. room_used bytes ds _ _ c.measure.ensures c.in_ok-left.left (rw c.in_ok-left.was at m) _
    c.checked_sub.ensures

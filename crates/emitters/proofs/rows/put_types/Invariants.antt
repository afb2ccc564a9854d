use Rattle.std.proofs.Common.{◌≡◌, ◌+◌, ◌*◌, ◌-◌}
use Rattle.emitters.specs.Writing.{TypesWritten}
use Rattle.emitters.proofs.rows.put_types.Given as goal

abbrev pub invariant-loop-row : goal.invariant-loop-row
invariant-loop-row l =
    TypesWritten l.rows l.at (l.row - l.at) l.letter l.initial.out l.out l.place l.end
    × (l.end ≡ l.place + 4 * (l.row - l.at))

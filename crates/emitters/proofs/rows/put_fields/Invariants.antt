use Rattle.std.proofs.Common.{◌≡◌, ◌+◌, ◌*◌, ◌-◌}
use Rattle.emitters.specs.Writing.{FieldsWritten}
use Rattle.emitters.proofs.rows.put_fields.Given as goal

abbrev pub invariant-loop-row : goal.invariant-loop-row
invariant-loop-row l =
    FieldsWritten l.rows l.at (l.row - l.at) l.initial.out l.out l.place l.end
    × (l.end ≡ l.place + 4 * (l.row - l.at))

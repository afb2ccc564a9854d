use Rattle.std.proofs.Common.{◌≡◌, ◌+◌, ◌*◌, ◌-◌}
use Rattle.emitters.specs.Writing.{CopiesWritten}
use Rattle.emitters.proofs.changes.put_copies.Given as goal

abbrev pub invariant-loop-entry : goal.invariant-loop-entry
invariant-loop-entry l =
    CopiesWritten l.rows l.tables l.from (l.entry - l.from) l.slot l.initial.out l.out l.place l.end
    × (l.end ≡ l.place + 16 * (l.entry - l.from))

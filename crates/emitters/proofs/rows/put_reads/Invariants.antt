use Rattle.std.proofs.Common.{◌≡◌, ◌+◌, ◌*◌, ◌-◌}
use Rattle.emitters.specs.Lines.{read_lines}
use Rattle.emitters.specs.Writing.{Written}
use Rattle.emitters.proofs.rows.put_reads.Given as goal

abbrev pub invariant-loop-s : goal.invariant-loop-s
invariant-loop-s l =
    Written (read_lines l.slot (l.s - l.slot)) l.initial.out l.out l.place l.end
    × (l.end ≡ l.place + 4 * (l.s - l.slot))

use Prim.Native.Nat.{◌+◌, ◌-◌, ◌*◌, ◌≤◌}
use lib.ListN.{get_or}
use Rattle.objects.specs.Acts.{Written}
use Rattle.objects.specs.Holding.{first_value_of}
use Rattle.objects.specs.Values.{word}
use Rattle.frames.proofs.open_locals.Given as goal

abbrev pub invariant-loop-i : goal.invariant-loop-i
invariant-loop-i l = (l.i ≤ l.n)
    × Written l.initial.slots l.slots l.from l.i (λ k. word (first_value_of (get_or l.rows ((l.row + k) * 4 + 1) 0)))

abbrev pub decreases-loop-i : goal.decreases-loop-i
decreases-loop-i l = l.n - l.i

use Prim.Native.Nat.{◌+◌, ◌-◌, ◌*◌}
use lib.ListN.{get_or}
use Rattle.objects.specs.Acts.{first_of, Written}
use Rattle.objects.proofs.fill.Given as goal

abbrev pub invariant-loop-i : goal.invariant-loop-i
invariant-loop-i l = Written l.initial.store l.store (l.o + 1 + l.from) (l.i - l.from)
    (λ k. first_of l.rows l.tables l.c (l.from + k) (get_or l.tables (l.c * 576 + 515) 0))

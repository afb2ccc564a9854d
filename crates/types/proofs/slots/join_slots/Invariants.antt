-- `types::slots::join_slots` meets its contract. Assumes nothing.
use Prim.Native.Nat.{◌+◌}
use lib.ListN.{get_or}
use Rattle.types.specs.Tables.{Changed, joined_slot}
use Rattle.types.proofs.slots.join_slots.Given as goal

abbrev pub invariant-loop-i : goal.invariant-loop-i
invariant-loop-i l = Changed l.initial.slots l.slots l.i (λ k. joined_slot l.table l.above (get_or l.initial.slots (l.top + k) 0) (get_or l.initial.slots k 0))

-- `types::slots::apply_all` meets its contract. Assumes nothing.
use lib.ListN.{get_or}
use Rattle.types.specs.Tables.{Changed, applied_slot}
use Rattle.types.proofs.slots.apply_all.Given as goal

abbrev pub invariant-loop-slot : goal.invariant-loop-slot
invariant-loop-slot l = Changed l.initial.slot-items l.slot-items l.slot-index
    (λ k. applied_slot l.table l.effect (get_or l.initial.slot-items k 0))

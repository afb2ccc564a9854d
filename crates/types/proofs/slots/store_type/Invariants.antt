-- `types::slots::store_type` meets its contract. Assumes nothing.
use lib.ListN.{get_or}
use Rattle.types.specs.Tables.{Changed, applied_number}
use Rattle.types.proofs.slots.store_type.Given as goal

abbrev pub invariant-loop-number : goal.invariant-loop-number
invariant-loop-number l = Changed l.initial.number-items l.number-items l.number-index
    (λ k. applied_number l.table l.r.effect (get_or l.initial.number-items k 0))

-- `sums::chain_all` meets its contract. Assumes nothing.
use Rattle.sums.proofs.Chains.{Chaining}
use Rattle.sums.proofs.chain_all.Given as goal

abbrev pub invariant-loop-e : goal.invariant-loop-e
invariant-loop-e l = Chaining l.table l.initial.heads l.initial.nexts l.heads l.nexts l.e

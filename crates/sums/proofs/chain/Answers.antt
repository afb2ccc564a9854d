-- `sums::chain` meets its contract. Assumes nothing.
use Rattle.sums.proofs.Chains.{chained_set}
use Rattle.sums.proofs.chain.Goals as goal

pub returns-clause-chained_2 : goal.returns-clause-chained_2
returns-clause-chained_2 c = chained_set _ _ _ c.args.e c.bucket-b.result c.requires.e_in_bounds c.requires.chained
    c.bucket-b.ensures.0 c.bucket-b.ensures.1

-- `sums::open_window` meets its contract. Assumes nothing.
use Rattle.sums.proofs.Windows.{opened}
use Rattle.sums.proofs.open_window.Goals as goal

pub returns-clause-sums_after : goal.returns-clause-sums_after
returns-clause-sums_after c = let k = c.chain_all.ensures in
    opened c.requires k.chained k.heads_len_unchanged k.nexts_len_unchanged

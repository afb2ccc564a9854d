-- `sums::narrow` meets its contract. Assumes nothing.
use Rattle.sums.proofs.Windows.{narrowed}
use Rattle.sums.proofs.narrow.Goals as goal

pub returns : goal.returns
returns c = let o = c.requires.fact in let e = c.choose_end-end.ensures in
    let k = c.keep_below-kept.ensures in
    let h = c.chain_all.ensures in
    narrowed o _ c.requires.count_value e.lower_bound.0 e.lower_bound.1 e.fact k.result_after k.upper_bound k.table_len_unchanged
    h.chained h.heads_len_unchanged h.nexts_len_unchanged

-- `sums::put_entry` meets its contract. Assumes nothing.
use Rattle.sums.proofs.Tables.{put_four}
use Rattle.sums.proofs.put_entry.Goals as goal

pub returns : goal.returns
returns c = let S = c.args in
    put_four _ S.e S.line.model S.line.printed S.line.spoiled S.line.cents c.requires

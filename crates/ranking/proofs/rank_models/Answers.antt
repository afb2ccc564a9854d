-- `ranking::rank_models` meets its contract. Assumes nothing.
use Rattle.ranking.proofs.Given.{uneven_models, even_models}
use Rattle.ranking.proofs.rank_models.Goals as goal

pub returns-then-counts-ne0 : goal.returns-then-counts-ne0
returns-then-counts-ne0 c = let r = uneven_models _ _ c.if-counts-ne0.true in
    record { value = r.0; report_after = r.1 }

pub returns : goal.returns
returns c = let r = even_models c.args.counts.now c.args.report.now _ _ c.if-counts-ne0.false
    c.report_any.ensures in
    record { value = r.0; report_after = r.1 }

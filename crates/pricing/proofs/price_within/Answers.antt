-- `pricing::price_within` meets its contract. Assumes nothing.
use Rattle.std.proofs.Common.{ap, ◌∙◌, arith, Ok}
use Rattle.std.proofs.lemmas.Result.{err_from_is_err_and}
use Rattle.pricing.proofs.Tables.{ruled_first}
use Rattle.pricing.proofs.Answers.{price_refused, price_ruled}
use Rattle.language.specs.Results.{accept}
use Rattle.pricing.proofs.price_within.Goals as goal

pub returns-in_err-scanned : goal.returns-in_err-scanned
returns-in_err-scanned c =
    let p = err_from_is_err_and c.from_residual.result c.from_residual.ensures.1 in
    rw (p.1, p.2) (price_refused c.args.terms.now c.args.model _ (accept c.args.day)
    (rw c.in_err-scanned.was at c.scan_terms.ensures))

pub returns : goal.returns
returns c = let r = rw c.in_ok-scanned.was at c.scan_terms.ensures in
    ap Ok (c.price_kept.ensures ∙ ruled_first r.3 (omega arith))
    ∙ price_ruled c.args.terms.now c.args.model c.args.day r.0 r.1

-- `pricing::report_days` meets its contract. Assumes nothing.
use Rattle.std.proofs.Common.{arith}
use Rattle.std.proofs.lemmas.Result.{err_from_is_err_and}
use Rattle.pricing.proofs.Tables.{ruled_priced}
use Rattle.pricing.proofs.Answers.{report_refused, report_made}
use Rattle.prices.proofs.Terms.{terms_in_range}
use Rattle.language.specs.Results.{accept}
use Rattle.language.proofs.Filling.{answer_refused}
use Rattle.prices.specs.Reports.{days_from, cents_on}
use Rattle.pricing.proofs.report_days.Goals as goal

pub returns-in_err-scanned : goal.returns-in_err-scanned
returns-in_err-scanned c =
    let p = err_from_is_err_and c.from_residual.result c.from_residual.ensures.1 in
    rw (p.1, p.2) (answer_refused 1 _ _ c.args.report.now
    (report_refused c.args.terms.now c.args.model _ _ (accept (days_from c.args.days.first c.args.days.count))
    (rw c.in_err-scanned.was at c.scan_terms.ensures)))

pub write_report-requires : goal.write_report-requires
write_report-requires c = let r = rw c.in_ok-scanned.was at c.scan_terms.ensures in
    record {
      in_range = omega (arith, c.requires);
      priced = (cents_on c.args.model r.0, ruled_priced r.3 (terms_in_range c.args.terms.now r.0 r.1));
    }

pub returns : goal.returns
returns c = let r = rw c.in_ok-scanned.was at c.scan_terms.ensures in
    rw (report_made c.args.terms.now c.args.model c.args.days.first c.args.days.count r.0 r.1)
    (c.write_report.ensures (cents_on c.args.model r.0)
    (ruled_priced r.3 (terms_in_range c.args.terms.now r.0 r.1)))

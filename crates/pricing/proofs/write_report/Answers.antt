-- `pricing::write_report` meets its contract. Assumes nothing.
use Rattle.std.proofs.Common.{arith, ℕ, refl}
use lib.ListN.{replicate}
use Rattle.language.proofs.Filling.{replicate_long}
use Rattle.prices.specs.Reports.{price_runs, run_lines}
use Rattle.pricing.proofs.Answers.{report_written}
use Rattle.pricing.proofs.write_report.Goals as goal

pub returns : goal.returns
returns c = λ price p. report_written (run_lines (price_runs price c.args.days.first c.args.days.count)) c.args.report.now
    (replicate {A = ℕ} 558 0) c.write_runs-n.new.held _ c.write_runs-n.result
    (c.write_runs-n.ensures.1 price p).0 c.if-report-n.false
    (omega (arith, c.write_runs-n.ensures.0, replicate_long 558))
    (c.write_runs-n.ensures.1 price p).1 (rw c.copy_from_slice.ensures.after refl)

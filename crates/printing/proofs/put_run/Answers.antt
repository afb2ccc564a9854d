-- `printing::put_run` meets its contract. Assumes nothing.
use native.Mathlib.Omega.{arith}
use Rattle.language.proofs.Filling.{sets_then}
use Rattle.printing.proofs.Writing.{both_long}
use Rattle.language.specs.Printed.{counts_text}
use Rattle.printing.specs.Told.{end_text}
use Rattle.printing.proofs.put_run.Goals as goal

pub returns : goal.returns
returns c = (
  both_long c.args.at c.put_outcome-then.result c.put_counts.result
      (end_text c.args.run.outcome)
      (counts_text c.args.run.steps c.args.run.objects c.args.run.changes)
      c.put_outcome-then.ensures.0 c.put_counts.ensures.0,
  omega (arith, c.put_outcome-then.ensures.1, c.put_counts.ensures.1),
  rw (c.put_counts.ensures.2, c.put_outcome-then.ensures.2)
      (sets_then c.args.out.now c.args.at c.put_outcome-then.result
      (end_text c.args.run.outcome)
      (counts_text c.args.run.steps c.args.run.objects c.args.run.changes)
      c.put_outcome-then.ensures.0),
)

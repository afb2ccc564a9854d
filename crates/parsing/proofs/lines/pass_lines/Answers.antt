-- Lines of a letter: between two of them, how many are left and what is left to write. Assumes nothing.
use mathlib.Core.Path.{sym, ◌∙◌}
use Rattle.parsing.proofs.LineLaws.{passing_step}
use Rattle.parsing.proofs.lines.pass_lines.Goals as goal

pub loop-limits-preserved : goal.loop-limits-preserved
loop-limits-preserved c = passing_step c.loop-limits.invariant (c.is_letter.ensures.1 c.loop-limits-test.true)
    (sym c.is_letter.ensures.0 ∙ c.loop-limits-test.true)

use mathlib.Core.Path.{sym, ◌∙◌}
use native.Mathlib.Omega.{arith}
use Rattle.limits.proofs.Standing.{stand_known, stand_here, methods_end, methods_more}
use Rattle.limits.proofs.after_methods.Goals as goal

pub skip_method-row-requires : goal.skip_method-row-requires
skip_method-row-requires c = stand_here (sym c.letter_at.ensures ∙ c.loop-row-test.true) c.loop-row.invariant.rest

pub loop-row-smaller : goal.loop-row-smaller
loop-row-smaller c = omega (
  arith,
  stand_known c.loop-row.invariant.rest,
  (methods_more c.loop-row.invariant (sym c.letter_at.ensures ∙ c.loop-row-test.true) c.skip_method-row.ensures).1,
)

pub loop-row-preserved : goal.loop-row-preserved
loop-row-preserved c =
    (methods_more c.loop-row.invariant (sym c.letter_at.ensures ∙ c.loop-row-test.true) c.skip_method-row.ensures).0

pub returns : goal.returns
returns c = methods_end c.loop-row.invariant (λ e. c.loop-row-test.false (c.letter_at.ensures ∙ e))

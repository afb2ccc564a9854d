-- `counting::count_objects` meets its contract. Assumes nothing.
use mathlib.Core.Path.{sym, ap, ◌∙◌}
use native.Mathlib.Omega.{arith}
use Rattle.language.specs.Program.{world}
use Rattle.counting.specs.Labels.{labels_told}
use Rattle.counting.proofs.Objects.{added_little}
use Rattle.counting.proofs.Stores.{next_start, next_some, next_none, next_end}
use Rattle.counting.proofs.count_objects.Goals as goal

pub loop-at-init : goal.loop-at-init
loop-at-init g c = (omega arith, omega arith, λ w. next_start _ _ _ _ _ _)

pub returns-in_err-labels : goal.returns-in_err-labels
returns-in_err-labels g c = λ w. c.from_residual.ensures ∙ ap labels_told (sym (c.loop-at.invariant.2 w
    ∙ next_none (world w.program) _ _ _ _ _ _ _ _ c.loop-at-test.true _ c.ended-ended.ensures
    (c.in_err-labels.ensures w)))

pub loop-at-preserved : goal.loop-at-preserved
loop-at-preserved g c = let w = c.requires.0 in
    let little = added_little (world w.program) _ _ _ _ _ _ (c.in_ok-labels.ensures w) in (
      omega (arith, little.0, c.loop-at.invariant.0),
      omega (arith, little.1, c.loop-at.invariant.1),
      λ w. c.loop-at.invariant.2 w
          ∙ next_some (world w.program) _ _ _ _ _ _ _ _ c.loop-at-test.true _ c.ended-ended.ensures _
          (c.in_ok-labels.ensures w),
    )

pub returns : goal.returns
returns g c = λ w. ap labels_told (sym (c.loop-at.invariant.2 w
    ∙ next_end (world w.program) _ _ _ _ _ _ _ _ _ c.loop-at-test.false))

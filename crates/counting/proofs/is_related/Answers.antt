-- `counting::is_related` meets its contract. Assumes nothing.
use mathlib.Core.Path.{sym, ◌∙◌}
use Rattle.counting.proofs.Knowledge.{printed_unknown, spoiled_unknown, spoiled_printed, spoiled_below}
use Rattle.counting.proofs.is_related.Goals as goal
use Rattle.counting.proofs.is_related.Goals.{then-not-is_declared-via-then-not-is_declared}
use Rattle.counting.proofs.is_related.Goals.{then-not-is_declared-via-else-not-is_declared+then-not-is_declared-2}
use Rattle.counting.proofs.is_related.Goals.{then-not-is_declared-via-else-not-is_declared+else-not-is_declared-2+then-spoiled-printed}

pub returns-then-not-is_declared : goal.returns-then-not-is_declared
returns-then-not-is_declared c = λ w. elim c.then-not-is_declared.branch [
  | then-not-is_declared-via-then-not-is_declared v ↦
      printed_unknown w _ _ (sym c.is_declared.ensures ∙ v.if-not-is_declared.true)
  | then-not-is_declared-via-else-not-is_declared+then-not-is_declared-2 v ↦
      spoiled_unknown w _ _ (sym c.is_declared.ensures ∙ v.if-not-is_declared.false)
      (sym v.is_declared-else-not-is_declared.ensures ∙ v.if-not-is_declared-2.true)
  | then-not-is_declared-via-else-not-is_declared+else-not-is_declared-2+then-spoiled-printed v ↦
      spoiled_printed w _ _ (sym c.is_declared.ensures ∙ v.if-not-is_declared.false)
      (sym v.is_declared-else-not-is_declared.ensures ∙ v.if-not-is_declared-2.false) v.if-spoiled-printed.true
]

pub returns : goal.returns
returns c = λ w. c.is_below.ensures
    ∙ spoiled_below w _ _ (sym c.is_declared.ensures ∙ c.if-not-is_declared.false)
    (sym c.is_declared-else-not-is_declared.ensures ∙ c.if-not-is_declared-2.false) c.if-spoiled-printed.false

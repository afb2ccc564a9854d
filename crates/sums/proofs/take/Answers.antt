-- `sums::take` meets its contract. Assumes nothing.
use mathlib.Core.Logic.{inl, inr}
use native.Mathlib.Omega.{arith}
use Rattle.sums.proofs.Windows.{window_in, window_below, window_above, passed_over, taken_in}
use Rattle.sums.proofs.take.Goals as goal

pub returns-then-number-low : goal.returns-then-number-low
returns-then-number-low c = let o = c.requires in (
  o.wide,
  (
    omega arith,
    passed_over o c.args.line (elim c.then-number-low.either [
      | inl h ↦ window_below _ _ _ (rw c.from-number.ensures at h)
      | inr h ↦ window_above _ _ _ (rw c.from-number.ensures at h.0) (rw c.from-number.ensures at h.1)
    ]),
  ),
)

pub returns-in-Ok : goal.returns-in-Ok
returns-in-Ok c = let o = c.requires in (
  o.wide,
  (
    omega arith,
    taken_in o c.args.line (window_in _ _ _
        (rw c.from-number.ensures at c.if-number-low.false) (rw c.from-number.ensures at c.if-w-number.false))
        c.in-Ok.ensures,
  ),
)

-- `sums::take_narrowed` meets its contract. Assumes nothing.
use mathlib.Core.Path.{◌∙◌}
use Rattle.sums.proofs.Adding.{enter_within}
use Rattle.sums.proofs.Windows.{window_in, gone, still_lacks, entered_after}
use Rattle.sums.proofs.take_narrowed.Goals as goal

pub returns-then-v-from : goal.returns-then-v-from
returns-then-v-from c = let o = c.requires.fact in let x = c.narrow-v.ensures in (
  x.wide,
  (
    x.less,
    gone o _ x c.args.line c.requires.lacks c.requires.low_le_model.0
        (rw c.from.ensures at c.if-v-from.true),
  ),
)

pub enter-requires-clause-lacks : goal.enter-requires-clause-lacks
enter-requires-clause-lacks c = let o = c.requires.fact in
    still_lacks o _ c.narrow-v.ensures c.args.line c.requires.lacks

pub returns-in_err-count : goal.returns-in_err-count
returns-in_err-count c = let o = c.requires.fact in rw c.from_residual.ensures (
  window_in _ _ _ c.requires.low_le_model.0 c.requires.low_le_model.1,
  enter_within c.args.line o.sums c.requires.lacks ∙ c.in_err-count.ensures,
)

pub returns : goal.returns
returns c = let o = c.requires.fact in let x = c.narrow-v.ensures in (
  x.wide,
  (
    x.less,
    entered_after o _ x c.args.line c.requires.lacks c.requires.low_le_model.0
        (rw c.from.ensures at c.if-v-from.false) c.in_ok-count.ensures.2,
  ),
)

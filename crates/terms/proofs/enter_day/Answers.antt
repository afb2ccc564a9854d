-- `terms::enter_day` meets its contract. Assumes nothing.
use Rattle.std.proofs.Common.{sym, ◌∙◌}
use Rattle.terms.proofs.Entering.{day_outranked, day_written}
use Rattle.terms.proofs.enter_day.Goals as goal

pub returns-then-not-is_outranked : goal.returns-then-not-is_outranked
returns-then-not-is_outranked c = day_written _ _ _ (sym c.is_outranked.ensures ∙ c.if-not-is_outranked.true)

pub returns-else-not-is_outranked : goal.returns-else-not-is_outranked
returns-else-not-is_outranked c = day_outranked _ _ _ (sym c.is_outranked.ensures ∙ c.if-not-is_outranked.false)

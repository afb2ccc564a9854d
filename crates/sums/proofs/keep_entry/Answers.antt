-- `sums::keep_entry` meets its contract. Assumes nothing.
use mathlib.Core.Path.{refl}
use mathlib.Core.Logic.{inl, inr}
use Rattle.fleet.specs.Entries.{entry}
use Rattle.sums.proofs.keep_entry.Goals as goal

pub returns-then-from-end : goal.returns-then-from-end
unfolding entry
returns-then-from-end c = inl (
  refl,
  (rw (c.from.ensures, c.at-line.ensures) at c.if-from-end.true, rw c.at-line.ensures at c.put_entry.ensures),
)

pub returns : goal.returns
unfolding entry
returns c = inr (refl, (rw (c.from.ensures, c.at-line.ensures) at c.if-from-end.false, refl))

-- `sums::add` meets its contract. Assumes nothing.
use mathlib.Core.Path.{◌∙◌}
use Rattle.sums.proofs.Adding.{increase_after, increase_within, entered}
use Rattle.sums.proofs.add.Goals as goal

pub returns-in-Some : goal.returns-in-Some
returns-in-Some c = let k = c.in-Some-plus.ensures in
    increase_after c.args.line c.requires (c.in-Some.ensures c.args.count c.requires)
    (rw (k.0, c.at.ensures) at c.put_entry.ensures) (rw c.at.ensures at k.1)

pub returns-in_default-plus : goal.returns-in_default-plus
returns-in_default-plus c = increase_within c.args.line c.requires (c.in-Some.ensures c.args.count c.requires)
    ∙ rw c.at.ensures at c.in_default-plus.ensures

pub returns : goal.returns
returns c = rw c.ok_or.ensures.value
    (entered _ _ _ c.args.line _ c.requires (c.in_default.ensures c.args.count c.requires) c.enter.ensures)

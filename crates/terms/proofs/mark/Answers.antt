-- `terms::mark` meets its contract. Assumes nothing.
use Rattle.terms.proofs.Marking.{mark_by}
use Rattle.terms.proofs.mark.Goals as goal

pub returns : goal.returns
returns c = mark_by c.args.marks.now c.args.n c.effect_of.result c.effect_of.ensures

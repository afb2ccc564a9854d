-- `checker::check_classes` meets its contract. Assumes nothing.
use Rattle.passes.proofs.Passing.{checks_above}
use Rattle.checker.proofs.check_classes.Goals as goal

pub returns : goal.returns
returns g c = checks_above c.check_formed.ensures

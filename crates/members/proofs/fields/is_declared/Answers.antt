-- `members::fields::is_declared` meets its contract. Assumes nothing.
use Rattle.members.proofs.Tables.{declared_class}
use Rattle.members.proofs.fields.is_declared.Goals as goal

pub returns-else-t-eq-BOOL : goal.returns-else-t-eq-BOOL
returns-else-t-eq-BOOL c = λ P e. declared_class P c.args.t c.args.count e c.if-t-eq-BOOL.false

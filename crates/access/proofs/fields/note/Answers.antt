-- `access::fields::note` meets its contract. Assumes nothing.
use native.Mathlib.Omega.{arith}
use Rattle.access.proofs.FieldLaws.{replaced_past}
use Rattle.access.proofs.fields.note.Goals as goal

pub returns-else-at-class_at : goal.returns-else-at-class_at
returns-else-at-class_at c = replaced_past _ _ _ (omega (arith, c.if-at-class_at.false))

-- `members::fields::enter_field` meets its contract. Assumes nothing.
use mathlib.Core.Path.{refl}
use Rattle.members.proofs.FieldLaws.{enter_is}
use Rattle.members.proofs.fields.enter_field.Goals as goal

pub returns : goal.returns
returns c = λ w. rw c.from.ensures (enter_is w c.second-name.result c.second-name.ensures _ refl)

-- `members::fields::check_fields` meets its contract. Assumes nothing.
use Rattle.members.proofs.FieldLaws.{Fielding}
use Rattle.members.specs.Ready.{FieldsReady}
use Rattle.members.proofs.fields.check_fields.Given as goal

abbrev pub invariant-loop-at : goal.invariant-loop-at
invariant-loop-at l = (w : FieldsReady l.rows l.initial.tables l.r l.n l.base l.count) → Fielding w l.tables l.at

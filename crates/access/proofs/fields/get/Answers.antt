-- `access::fields::get` meets its contract. Assumes nothing.
use Rattle.access.proofs.fields.get.Goals as goal

pub field_type-requires : goal.field_type-requires
field_type-requires c = rw c.first.ensures (c.requires.field _ c.in-Class.is).0

pub note-requires : goal.note-requires
note-requires c = (c.requires.field _ c.in-Class.is).1

use mathlib.Core.Path.{sym, ◌∙◌}
use Rattle.frames.proofs.Leaves.{leaf_true, leaf_false, leaf_null, leaf_slot}
use Rattle.frames.proofs.Leaves.{pre_new, leaf_new}
use Rattle.objects.specs.Values.{outcome}
use Rattle.frames.proofs.leaf.Goals as goal

pub new_object-requires : goal.new_object-requires
new_object-requires c = rw c.first-in-87.ensures
    (pre_new c.requires.pre_leaf
    (sym c.letter_at.ensures ∙ c.in-87.is))

pub returns-in-84 : goal.returns-in-84
returns-in-84 c = leaf_true (sym c.letter_at.ensures ∙ c.in-84.is)

pub returns-in-76 : goal.returns-in-76
returns-in-76 c = leaf_false (sym c.letter_at.ensures ∙ c.in-76.is)

pub returns-in-78 : goal.returns-in-78
returns-in-78 c = leaf_null (sym c.letter_at.ensures ∙ c.in-78.is)

pub returns-in-73 : goal.returns-in-73
returns-in-73 c = leaf_slot (outcome c.read_slot.result)
    (sym c.letter_at.ensures ∙ c.in-73.is)
    (rw c.first.ensures at c.read_slot.ensures)

pub returns-in-87 : goal.returns-in-87
returns-in-87 c = leaf_new (sym c.letter_at.ensures ∙ c.in-87.is)
    (rw c.first-in-87.ensures at c.new_object.ensures)

pub returns-in_default : goal.returns-in_default
returns-in_default c = c.reclassify.ensures

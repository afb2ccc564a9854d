use Rattle.frames.proofs.Leaves.{pre_change, change_missing, change_done}
use Rattle.objects.proofs.Values.{not_gave, outcome_value, word_of_outcome}
use Rattle.objects.specs.Values.{outcome, meaning}
use Rattle.frames.proofs.reclassify.Goals as goal

pub returns-then-o-ge-STUCK : goal.returns-then-o-ge-STUCK
returns-then-o-ge-STUCK c = change_missing (outcome c.read_slot-o.result) c.requires.at_value
    (rw c.first.ensures at c.read_slot-o.ensures)
    (not_gave c.read_slot-o.result c.if-o-ge-STUCK.true)

pub change_class-requires : goal.change_class-requires
change_class-requires c = rw c.second.ensures (pre_change c.read_slot-o.result c.requires.pre_leaf c.requires.at_value
    (word_of_outcome c.read_slot-o.result c.if-o-ge-STUCK.false
    c.read_slot-o.ensures.small))

pub returns : goal.returns
returns c = change_done (outcome c.read_slot-o.result) (meaning c.read_slot-o.result)
    c.requires.at_value (rw c.first.ensures at c.read_slot-o.ensures)
    (outcome_value c.read_slot-o.result c.if-o-ge-STUCK.false)
    (rw c.second.ensures at c.change_class.ensures)

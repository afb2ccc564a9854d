-- `counting::count_object` meets its contract. Assumes nothing.
use Rattle.counting.proofs.Objects.{class_unknown, class_counted}
use Rattle.counting.proofs.count_object.Goals as goal

pub returns-then-classes-class : goal.returns-then-classes-class
returns-then-classes-class c = λ w. rw c.in-In.is (class_unknown w _ _ _ _ _ c.if-classes-class.true)

pub returns-else-classes-class : goal.returns-else-classes-class
returns-else-classes-class c = λ w. rw c.in-In.is (class_counted w _ _ _ _ _ _ _ c.if-classes-class.false
    c.count_below.ensures c.count_below-in-In.ensures)

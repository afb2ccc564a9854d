-- `members::methods::enter_method` meets its contract. Assumes nothing.
use native.Mathlib.Omega.{arith}
use lib.ListN.{length-set}
use Rattle.members.proofs.Numbers.{number_index, number_lines, number_entered}
use Rattle.members.proofs.methods.enter_method.Goals as goal

pub overflow_mul-at : goal.overflow_mul-at
overflow_mul-at c = let j = number_index c.requires in omega (arith, j.0)

pub overflow_add-from : goal.overflow_add-from
overflow_add-from c = let j = number_index c.requires in omega (arith, j.3, j.4)

pub overflow_add-from-2 : goal.overflow_add-from-2
overflow_add-from-2 c = let j = number_index c.requires in omega (arith, j.3, j.4)

pub overflow_cast-methods : goal.overflow_cast-methods
overflow_cast-methods c = let j = number_index c.requires in omega (arith, j.2, j.3, j.4)

pub overflow_add-methods : goal.overflow_add-methods
overflow_add-methods c = let j = number_index c.requires in omega (arith, j.0, j.3, j.4)

pub offset_bounds-methods-at : goal.offset_bounds-methods-at
offset_bounds-methods-at c = let j = number_index c.requires in omega (arith, j.0)

pub bounds-methods-at : goal.bounds-methods-at
bounds-methods-at c = let j = number_index c.requires in omega (arith, j.0)

pub overflow_cast-methods-2 : goal.overflow_cast-methods-2
overflow_cast-methods-2 c = let j = number_index c.requires in omega (arith, j.2, j.3, j.4)

pub overflow_add-methods-2 : goal.overflow_add-methods-2
overflow_add-methods-2 c = let j = number_index c.requires in omega (arith, j.0, j.3, j.4)

pub offset_bounds-methods-at-2 : goal.offset_bounds-methods-at-2
offset_bounds-methods-at-2 c = let j = number_index c.requires in omega (arith, j.0)

pub bounds-methods-at-2 : goal.bounds-methods-at-2
bounds-methods-at-2 c = let j = number_index c.requires in simp length-set (omega (arith, j.0))

pub overflow_cast-methods-3 : goal.overflow_cast-methods-3
overflow_cast-methods-3 c = let j = number_index c.requires in omega (arith, j.2, j.3, j.4)

pub overflow_add-methods-3 : goal.overflow_add-methods-3
overflow_add-methods-3 c = let j = number_index c.requires in omega (arith, j.0, j.3, j.4)

pub offset_bounds-methods-at-3 : goal.offset_bounds-methods-at-3
offset_bounds-methods-at-3 c = let j = number_index c.requires in omega (arith, j.0)

pub bounds-methods-at-3 : goal.bounds-methods-at-3
bounds-methods-at-3 c = let j = number_index c.requires in simp length-set (omega (arith, j.0))

pub overflow_cast-methods-4 : goal.overflow_cast-methods-4
overflow_cast-methods-4 c = let j = number_index c.requires in omega (arith, j.2, j.3, j.4)

pub overflow_add-methods-4 : goal.overflow_add-methods-4
overflow_add-methods-4 c = let j = number_index c.requires in omega (arith, j.0, j.3, j.4)

pub offset_bounds-methods-at-4 : goal.offset_bounds-methods-at-4
offset_bounds-methods-at-4 c = let j = number_index c.requires in omega (arith, j.0)

pub bounds-methods-at-4 : goal.bounds-methods-at-4
bounds-methods-at-4 c = let j = number_index c.requires in simp length-set (omega (arith, j.0))

pub effect_set-requires : goal.effect_set-requires
effect_set-requires c = number_lines c.requires

pub offset_bounds-effects-next : goal.offset_bounds-effects-next
offset_bounds-effects-next c = let j = number_index c.requires in omega (arith, j.1)

pub bounds-effects-next : goal.bounds-effects-next
bounds-effects-next c = let j = number_index c.requires in omega (arith, j.1)

pub returns : goal.returns
returns c = λ w. number_entered w c.effect_set.result c.effect_set.ensures

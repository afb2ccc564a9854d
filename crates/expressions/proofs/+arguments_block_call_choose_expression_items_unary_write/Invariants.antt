use Prim.Native.Nat.{◌-◌}
use Rattle.expressions.proofs.TurnsArguments.{ArgumentsLoop}
use Prim.Native.Nat.{◌+◌, ◌-◌, ◌*◌}
use Prim.Native.Nat.{◌+◌}
use Rattle.types.specs.Answers.{typed_case}
use Rattle.types.specs.declared.Typing.TheVariants.{Null}
use Rattle.expressions.proofs.TurnsItems.{ItemsLoop}
use Rattle.expressions.proofs.+arguments_block_call_choose_expression_items_unary_write.Given as goal

abbrev pub invariant-arguments-loop-i : goal.invariant-arguments-loop-i
invariant-arguments-loop-i l = ArgumentsLoop l.program.rows.now l.program.ends.now l.program.table.now l.program.above.now l.program.methods.now l.program.effects.now l.initial.slots l.initial.class_at l.at l.scope l.n l.slots l.class_at l.effect l.next l.i

abbrev pub decreases-arguments-loop-i : goal.decreases-arguments-loop-i
decreases-arguments-loop-i l = l.n - l.i

abbrev pub decreases-arguments : goal.decreases-arguments
decreases-arguments l = (60000 - l.at) * 4 + 2

abbrev pub decreases-block : goal.decreases-block
decreases-block l = (60000 - l.at) * 4

abbrev pub decreases-call : goal.decreases-call
decreases-call l = (60000 - l.at) * 4

abbrev pub decreases-choose : goal.decreases-choose
decreases-choose l = (60000 - l.at) * 4

abbrev pub decreases-expression : goal.decreases-expression
decreases-expression l = (60000 - l.at) * 4 + 1

abbrev pub decreases-items : goal.decreases-items
decreases-items l = (60000 - l.at) * 4 + 2

abbrev pub invariant-items-loop : goal.invariant-items-loop
invariant-items-loop l = ItemsLoop l.program.rows.now l.program.ends.now l.program.table.now l.program.above.now l.program.methods.now l.program.effects.now l.initial.slots l.initial.class_at l.at l.scope l.n (typed_case Null 0) l.slots l.class_at l.so_far l.next (l.n - l.counter)

abbrev pub decreases-items-loop : goal.decreases-items-loop
decreases-items-loop l = l.n - l.counter

abbrev pub decreases-unary : goal.decreases-unary
decreases-unary l = (60000 - l.at) * 4

abbrev pub decreases-write : goal.decreases-write
decreases-write l = (60000 - l.at) * 4

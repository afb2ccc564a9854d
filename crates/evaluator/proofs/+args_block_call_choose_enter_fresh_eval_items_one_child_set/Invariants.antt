-- The measures of the cycle: fuel first, then a list's length.
use Rattle.std.proofs.Common.{◌-◌, ◌*◌, ◌+◌}
use Rattle.objects.specs.Values.{Gave, answer, answered}
use Rattle.evaluator.specs.Evaluator.{nothing}
use Rattle.evaluator.proofs.Lists.{ItemsLoop}
use Rattle.evaluator.proofs.Arguments.{ArgsLoop}
use Rattle.evaluator.proofs.+args_block_call_choose_enter_fresh_eval_items_one_child_set.Given as goal

abbrev pub decreases-args : goal.decreases-args
decreases-args l = l.tally.now.left * 17179869184 + l.n + 1

abbrev pub decreases-block : goal.decreases-block
decreases-block l = l.tally.now.left * 17179869184 + 8589934592

abbrev pub decreases-call : goal.decreases-call
decreases-call l = l.tally.now.left * 17179869184 + 8589934592

abbrev pub decreases-choose : goal.decreases-choose
decreases-choose l = l.tally.now.left * 17179869184 + 8589934592

abbrev pub decreases-enter_fresh : goal.decreases-enter_fresh
decreases-enter_fresh l = l.tally.now.left * 17179869184 + 1

abbrev pub decreases-eval : goal.decreases-eval
decreases-eval l = l.tally.now.left * 17179869184

abbrev pub decreases-items : goal.decreases-items
decreases-items l = l.tally.now.left * 17179869184 + l.n + 1

abbrev pub decreases-one_child : goal.decreases-one_child
decreases-one_child l = l.tally.now.left * 17179869184 + 8589934592

abbrev pub decreases-set : goal.decreases-set
decreases-set l = l.tally.now.left * 17179869184 + 8589934592

abbrev pub invariant-args-loop-slot : goal.invariant-args-loop-slot
invariant-args-loop-slot l =
    ArgsLoop l.program.rows.now l.program.ends.now l.program.tables.now l.program.above.now
    l.program.methods.now l.initial.store l.initial.slots l.at
    l.place l.n
    (answer (Gave nothing) l.initial.tally) l.store l.slots (answered l.r l.tally) l.slot l.next
    (l.slot - l.place.top)

abbrev pub invariant-items-loop : goal.invariant-items-loop
invariant-items-loop l =
    ItemsLoop l.program.rows.now l.program.ends.now l.program.tables.now l.program.above.now
    l.program.methods.now l.initial.store l.initial.slots l.at
    l.place l.n
    (answer (Gave nothing) l.initial.tally) l.store l.slots (answered l.r l.tally) l.next l.counter

use native.Mathlib.Omega.{arith}
use mathlib.Core.Path.{◌≡◌, refl, sym, ap, ◌∙◌}
use Rattle.expressions.proofs.Turns.{passed_on}
use mathlib.Core.Logic.{⊎_elim}
use Rattle.std.specs.Prelude.{Ok}
use Rattle.expressions.proofs.Turns.{in_row}
use Rattle.expressions.proofs.EffectLaws.{or_join}
use Rattle.expressions.proofs.TurnsArguments.{arguments_start, argument_pre, store_ready}
use Rattle.expressions.proofs.TurnsArguments.{arguments_next, arguments_ended, arguments_broken}
use mathlib.Core.Path.{sym, ◌∙◌}
use Rattle.expressions.proofs.TurnsBlocks.{block_open_pre, block_fail, block_items_pre, block_done}
use Rattle.expressions.proofs.TurnsNodes.{after_row}
use Rattle.expressions.proofs.TurnsUnary.{leaf_row}
use Rattle.expressions.proofs.TurnsCalls.{call_first, call_fail, call_items_pre, call_arguments_pre}
use Rattle.expressions.proofs.TurnsCalls.{call_many, call_fail_many, call_fail_arguments, call_invoke_pre, call_done}
use Rattle.expressions.proofs.TurnsArms.{choose_first, choose_fail, save_pre}
use Rattle.expressions.proofs.TurnsArms.{choose_second}
use Rattle.expressions.proofs.TurnsArms.{choose_fail_second, swap_pre, choose_third, choose_fail_third}
use Rattle.expressions.proofs.TurnsArms.{choice_pre, choose_done}
use Rattle.expressions.proofs.TurnsLetters.{rest_unary}
use Rattle.expressions.proofs.TurnsUnary.{leaf_row, leaf_slots, change_pre, true_post, false_post}
use Rattle.expressions.proofs.TurnsUnary.{null_post, slot_post, new_post, change_post, room_none}
use Rattle.expressions.proofs.EffectLaws.{join_or}
use Rattle.expressions.proofs.TurnsLists.{first_pre}
use Rattle.expressions.proofs.TurnsItems.{items_start, items_next, items_ended}
use Rattle.expressions.proofs.TurnsItems.{items_broken}
use Rattle.expressions.proofs.TurnsUnary.{leaf_row, unary_assign, unary_fail, unary_first, is_null_post, cast_post}
use Rattle.expressions.proofs.TurnsUnary.{assign_post, get_post, get_pre, assign_pre}
use Rattle.expressions.proofs.TurnsWrites.{write_first, write_fail, write_second, write_fail_second}
use Rattle.expressions.proofs.TurnsWrites.{write_pre, write_done}
use Rattle.expressions.proofs.+arguments_block_call_choose_expression_items_unary_write.Goals as goal

pub arguments-loop-i-init : goal.arguments-loop-i-init
arguments-loop-i-init t c = arguments_start c.requires.width_le_top c.requires.pre_list

pub arguments-expression-requires : goal.arguments-expression-requires
arguments-expression-requires t c = (
  omega (
    arith,
    (in_row
        (argument_pre c.loop-i.invariant c.loop-i-test.true)).3,
    c.loop-i.invariant.later,
    c.decreases,
  ),
  argument_pre c.loop-i.invariant c.loop-i-test.true,
)

pub arguments-returns-in_err-r : goal.arguments-returns-in_err-r
arguments-returns-in_err-r t c = rw (passed_on c.from_residual.result c.from_residual.ensures.1)
    (arguments_broken c.loop-i.invariant c.loop-i-test.true
    c.expression.ensures c.in_err-r.was)

pub arguments-store_type-requires : goal.arguments-store_type-requires
arguments-store_type-requires t c = let k = store_ready c.loop-i.invariant c.loop-i-test.true c.expression.ensures in record { n_in_bounds = k.0; by_index = k.1 }

pub arguments-bounds-program-next : goal.arguments-bounds-program-next
arguments-bounds-program-next t c = (in_row (argument_pre c.loop-i.invariant c.loop-i-test.true)).1

pub arguments-loop-i-preserved : goal.arguments-loop-i-preserved
arguments-loop-i-preserved t c = arguments_next c.loop-i.invariant c.loop-i-test.true c.expression.ensures
    c.in_ok-r.was c.store_type.ensures
    (or_join _ _)

pub arguments-returns : goal.arguments-returns
arguments-returns t c = arguments_ended c.loop-i.invariant c.loop-i-test.false refl

pub block-open-requires : goal.block-open-requires
block-open-requires t c = block_open_pre c.requires.pre c.requires.at_value _ _ c.first-v.ensures
    c.second-n.ensures

pub block-returns-in_err-open : goal.block-returns-in_err-open
block-returns-in_err-open t c = rw (passed_on c.from_residual.result c.from_residual.ensures.1)
    (block_fail c.requires.pre c.requires.at_value _ _ c.first-v.ensures
    c.second-n.ensures c.open.ensures
    c.in_err-open.was)

pub block-items-requires : goal.block-items-requires
block-items-requires t c = (
  omega (arith, (in_row c.requires.pre).3, c.decreases),
  block_items_pre c.requires.pre c.requires.at_value _ _ c.first-v.ensures
      c.second-n.ensures
      c.open.ensures
      c.in_ok-open.was,
)

pub block-returns : goal.block-returns
block-returns t c = block_done c.requires.pre c.requires.at_value _ _ c.first-v.ensures
    c.second-n.ensures
    c.open.ensures c.in_ok-open.was
    c.items.ensures

pub call-expression-requires : goal.call-expression-requires
call-expression-requires t c = (
  omega (arith, (in_row c.requires.pre).3, c.decreases),
  call_first c.requires.pre c.requires.at_value,
)

pub call-returns-in_err-receiver : goal.call-returns-in_err-receiver
call-returns-in_err-receiver t c = rw (passed_on c.from_residual.result c.from_residual.ensures.1)
    (call_fail c.requires.pre c.requires.at_value c.expression.ensures
    c.in_err-receiver.was)

pub call-bounds-program-at : goal.call-bounds-program-at
call-bounds-program-at t c = (in_row (call_first c.requires.pre c.requires.at_value)).1

pub call-items-requires : goal.call-items-requires
call-items-requires t c = (
  omega (
    arith,
    (in_row c.requires.pre).3,
    after_row (call_first c.requires.pre c.requires.at_value),
    c.decreases,
  ),
  call_items_pre c.requires.pre c.requires.at_value
      c.expression.ensures c.in_ok-receiver.was
      _ c.second-n.ensures,
)

pub call-returns-in_err-items : goal.call-returns-in_err-items
call-returns-in_err-items t c = rw (passed_on c.from_residual-in_err-items.result c.from_residual-in_err-items.ensures.1)
    (call_fail_many c.requires.pre c.requires.at_value c.expression.ensures
    c.in_ok-receiver.was _ c.second-n.ensures c.if-n-gt-MOST_ARGUMENTS.true
    c.items.ensures c.in_err-items.was)

pub call-returns-then-n-gt-MOST_ARGUMENTS : goal.call-returns-then-n-gt-MOST_ARGUMENTS
call-returns-then-n-gt-MOST_ARGUMENTS t c = call_many c.requires.pre c.requires.at_value c.expression.ensures
    c.in_ok-receiver.was _ c.second-n.ensures c.if-n-gt-MOST_ARGUMENTS.true
    c.items.ensures c.in_ok-items.was c.too_many.ensures

pub call-arguments-requires : goal.call-arguments-requires
call-arguments-requires t c = (
  omega (
    arith,
    (in_row c.requires.pre).3,
    after_row (call_first c.requires.pre c.requires.at_value),
    c.decreases,
  ),
  call_arguments_pre c.requires.pre c.requires.at_value
      c.expression.ensures c.in_ok-receiver.was
      _ c.second-n.ensures
      c.if-n-gt-MOST_ARGUMENTS.false,
)

pub call-returns-in_err-given : goal.call-returns-in_err-given
call-returns-in_err-given t c = rw (passed_on c.from_residual-in_err-given.result c.from_residual-in_err-given.ensures.1)
    (call_fail_arguments c.requires.pre c.requires.at_value c.expression.ensures
    c.in_ok-receiver.was _ c.second-n.ensures
    c.if-n-gt-MOST_ARGUMENTS.false
    c.arguments.ensures c.in_err-given.was)

pub call-invoke-requires : goal.call-invoke-requires
call-invoke-requires t c = call_invoke_pre c.requires.pre c.requires.at_value c.expression.ensures
    c.in_ok-receiver.was _ c.second-n.ensures
    c.if-n-gt-MOST_ARGUMENTS.false
    c.arguments.ensures
    c.in_ok-given.was

pub call-returns : goal.call-returns
call-returns t c = call_done c.requires.pre c.requires.at_value c.expression.ensures
    c.in_ok-receiver.was _ c.second-n.ensures
    c.if-n-gt-MOST_ARGUMENTS.false
    c.arguments.ensures c.in_ok-given.was
    c.invoke.ensures

pub choose-expression-requires : goal.choose-expression-requires
choose-expression-requires t c = (
  omega (arith, (in_row c.requires.pre).3, c.decreases),
  choose_first c.requires.pre c.requires.at_value,
)

pub choose-returns-in_err-condition : goal.choose-returns-in_err-condition
choose-returns-in_err-condition t c = rw (passed_on c.from_residual.result c.from_residual.ensures.1)
    (choose_fail c.requires.pre c.requires.at_value c.expression.ensures
    c.in_err-condition.was)

pub choose-bounds-program-at : goal.choose-bounds-program-at
choose-bounds-program-at t c = (in_row (choose_first c.requires.pre c.requires.at_value)).1

pub choose-save-requires : goal.choose-save-requires
choose-save-requires t c = save_pre c.requires.pre c.requires.at_value c.expression.ensures

pub choose-expression-requires-2 : goal.choose-expression-requires-2
choose-expression-requires-2 t c = (
  omega (
    arith,
    (in_row c.requires.pre).3,
    after_row (choose_first c.requires.pre c.requires.at_value),
    c.decreases,
  ),
  choose_second c.requires.pre c.requires.at_value c.expression.ensures
      c.in_ok-condition.was c.save.ensures,
)

pub choose-returns-in_err-yes : goal.choose-returns-in_err-yes
choose-returns-in_err-yes t c = rw (passed_on c.from_residual-in_err-yes.result c.from_residual-in_err-yes.ensures.1)
    (choose_fail_second c.requires.pre c.requires.at_value c.expression.ensures
    c.in_ok-condition.was c.save.ensures
    c.expression-2.ensures c.in_err-yes.was)

pub choose-bounds-program-first : goal.choose-bounds-program-first
choose-bounds-program-first t c = (in_row (choose_second c.requires.pre c.requires.at_value c.expression.ensures
    c.in_ok-condition.was c.save.ensures)).1

pub choose-swap-requires : goal.choose-swap-requires
choose-swap-requires t c = swap_pre c.requires.pre c.requires.at_value c.expression.ensures
    c.in_ok-condition.was c.save.ensures
    c.expression-2.ensures

pub choose-expression-requires-3 : goal.choose-expression-requires-3
choose-expression-requires-3 t c = (
  omega (
    arith,
    (in_row c.requires.pre).3,
    after_row (choose_first c.requires.pre c.requires.at_value),
    after_row (choose_second c.requires.pre c.requires.at_value c.expression.ensures
        c.in_ok-condition.was c.save.ensures),
    c.decreases,
  ),
  choose_third c.requires.pre c.requires.at_value
      c.expression.ensures c.in_ok-condition.was
      c.save.ensures c.expression-2.ensures
      c.in_ok-yes.was c.swap.ensures,
)

pub choose-returns-in_err-no : goal.choose-returns-in_err-no
choose-returns-in_err-no t c = rw (passed_on c.from_residual-in_err-no.result c.from_residual-in_err-no.ensures.1)
    (choose_fail_third c.requires.pre c.requires.at_value c.expression.ensures
    c.in_ok-condition.was c.save.ensures
    c.expression-2.ensures
    c.in_ok-yes.was c.swap.ensures
    c.expression-3.ensures c.in_err-no.was)

pub choose-choice-requires : goal.choose-choice-requires
choose-choice-requires t c = choice_pre c.requires.pre c.requires.at_value c.expression.ensures
    c.in_ok-condition.was c.save.ensures
    c.expression-2.ensures
    c.in_ok-yes.was c.swap.ensures
    c.expression-3.ensures
    c.in_ok-no.was

pub choose-returns : goal.choose-returns
choose-returns t c = choose_done c.requires.pre c.requires.at_value c.expression.ensures
    c.in_ok-condition.was c.save.ensures
    c.expression-2.ensures
    c.in_ok-yes.was c.swap.ensures
    c.expression-3.ensures
    c.in_ok-no.was c.choice.ensures

pub expression-read_slot-requires : goal.expression-read_slot-requires
expression-read_slot-requires t c = record {
  in_row = leaf_row c.requires;
  size_in_bounds = leaf_slots c.requires;
}

pub expression-change-requires : goal.expression-change-requires
expression-change-requires t c = change_pre c.requires (sym c.letter_at.ensures ∙ c.in-82.is)

pub expression-write-requires : goal.expression-write-requires
expression-write-requires t c = (
  omega (arith, (in_row c.requires).3, c.decreases),
  (
    sym c.letter_at.ensures ∙ c.in-85.is,
    c.requires,
  ),
)

pub expression-call-requires : goal.expression-call-requires
expression-call-requires t c = (
  omega (arith, (in_row c.requires).3, c.decreases),
  (
    sym c.letter_at.ensures ∙ c.in-81.is,
    c.requires,
  ),
)

pub expression-choose-requires : goal.expression-choose-requires
expression-choose-requires t c = (
  omega (arith, (in_row c.requires).3, c.decreases),
  (
    sym c.letter_at.ensures ∙ c.in-74.is,
    c.requires,
  ),
)

pub expression-block-requires : goal.expression-block-requires
expression-block-requires t c = (
  omega (arith, (in_row c.requires).3, c.decreases),
  (
    sym c.letter_at.ensures ∙ c.in-66.is,
    c.requires,
  ),
)

pub expression-unary-requires : goal.expression-unary-requires
expression-unary-requires t c = (
  omega (arith, (in_row c.requires).3, c.decreases),
  (
    rest_unary _ _ c.requires.e _ c.requires.given.encoded _
        c.letter_at.ensures
        (grind arith) (grind arith) (omega arith) (omega arith) (omega arith) (omega arith)
        (omega arith) (omega arith) (omega arith) (omega arith),
    c.requires,
  ),
)

pub expression-returns-in-84 : goal.expression-returns-in-84
expression-returns-in-84 t c = ⊎_elim
    (λ (l : c.letter_at.result ≡ 76). false_post (sym c.letter_at.ensures ∙ l) (ap Ok c.plain.ensures))
    (λ (l : c.letter_at.result ≡ 84). true_post (sym c.letter_at.ensures ∙ l) (ap Ok c.plain.ensures)) c.in-84.is

pub expression-returns-in-78 : goal.expression-returns-in-78
expression-returns-in-78 t c = null_post (sym c.letter_at.ensures ∙ c.in-78.is) (ap Ok c.plain-in-78.ensures)

pub expression-returns-in-73 : goal.expression-returns-in-73
expression-returns-in-73 t c = slot_post (sym c.letter_at.ensures ∙ c.in-73.is)
    c.read_slot.ensures

pub expression-returns-in-87 : goal.expression-returns-in-87
expression-returns-in-87 t c = new_post (sym c.letter_at.ensures ∙ c.in-87.is) c.create.ensures

pub expression-returns-in-82 : goal.expression-returns-in-82
expression-returns-in-82 t c = change_post (room_none c.requires.given.room)
    (sym c.letter_at.ensures ∙ c.in-82.is)
    c.change.ensures

pub items-loop-init : goal.items-loop-init
items-loop-init t c = rw c.plain-so_far.ensures (items_start c.requires (omega arith))

pub items-expression-requires : goal.items-expression-requires
items-expression-requires t c = (
  omega (
    arith,
    (in_row
        (first_pre c.loop.invariant.pre
        (λ e. omega (arith, c.loop-test.true)))).3,
    c.loop.invariant.later,
    c.decreases,
  ),
  (first_pre c.loop.invariant.pre
      (λ e. omega (arith, c.loop-test.true))),
)

pub items-returns-in_err-r : goal.items-returns-in_err-r
items-returns-in_err-r t c = rw (passed_on c.from_residual.result c.from_residual.ensures.1)
    (items_broken c.loop.invariant (λ e. omega (arith, c.loop-test.true))
    c.expression.ensures c.in_err-r.was)

pub items-bounds-program-next : goal.items-bounds-program-next
items-bounds-program-next t c = (in_row (first_pre c.loop.invariant.pre (λ e. omega (arith, c.loop-test.true)))).1

pub items-loop-preserved : goal.items-loop-preserved
items-loop-preserved t c = items_next c.loop.invariant (λ e. omega (arith, c.loop-test.true))
    c.expression.ensures
    c.in_ok-r.was (join_or _ _ _)
    c.expression.auto.slots
    c.expression.auto.class_at (omega arith)

pub items-returns : goal.items-returns
items-returns t c = items_ended c.loop.invariant (omega (arith, c.loop-test.false)) refl

pub unary-expression-requires : goal.unary-expression-requires
unary-expression-requires t c = (
  omega (arith, (in_row c.requires.pre).3, c.decreases),
  unary_first c.requires.unary c.requires.pre,
)

pub unary-get-requires : goal.unary-get-requires
unary-get-requires t c = get_pre c.requires.pre c.expression.ensures c.in_ok-child.was
    (sym c.letter_at.ensures ∙ c.in-71.is)

pub unary-assign-requires : goal.unary-assign-requires
unary-assign-requires t c = assign_pre c.requires.pre c.expression.ensures c.in_ok-child.was
    (unary_assign c.requires.pre c.requires.unary _ c.letter_at.ensures
    (omega arith)
    (omega arith) (omega arith))

pub unary-returns-in-90 : goal.unary-returns-in-90
unary-returns-in-90 t c = is_null_post c.requires.pre c.expression.ensures c.in_ok-child.was
    (sym c.letter_at.ensures ∙ c.in-90.is)
    c.test_null.ensures

pub unary-returns-in-71 : goal.unary-returns-in-71
unary-returns-in-71 t c = get_post c.requires.pre c.expression.ensures c.in_ok-child.was
    (sym c.letter_at.ensures ∙ c.in-71.is)
    c.get.ensures.0 c.get.ensures.1

pub unary-returns-in-75 : goal.unary-returns-in-75
unary-returns-in-75 t c = cast_post c.requires.pre c.expression.ensures c.in_ok-child.was
    (sym c.letter_at.ensures ∙ c.in-75.is)
    c.cast.ensures

pub unary-returns-in_default : goal.unary-returns-in_default
unary-returns-in_default t c = assign_post c.requires.pre c.expression.ensures c.in_ok-child.was
    (unary_assign c.requires.pre c.requires.unary _ c.letter_at.ensures
    (omega arith)
    (omega arith) (omega arith)) c.assign.ensures

pub write-expression-requires : goal.write-expression-requires
write-expression-requires t c = (
  omega (arith, (in_row c.requires.pre).3, c.decreases),
  write_first c.requires.pre c.requires.at_value,
)

pub write-returns-in_err-object : goal.write-returns-in_err-object
write-returns-in_err-object t c = rw (passed_on c.from_residual.result c.from_residual.ensures.1)
    (write_fail c.requires.pre c.requires.at_value c.expression.ensures
    c.in_err-object.was)

pub write-bounds-program-at : goal.write-bounds-program-at
write-bounds-program-at t c = (in_row (write_first c.requires.pre c.requires.at_value)).1

pub write-expression-requires-2 : goal.write-expression-requires-2
write-expression-requires-2 t c = (
  omega (
    arith,
    (in_row c.requires.pre).3,
    after_row (write_first c.requires.pre c.requires.at_value),
    c.decreases,
  ),
  write_second c.requires.pre c.requires.at_value c.expression.ensures
      c.in_ok-object.was,
)

pub write-returns-in_err-value : goal.write-returns-in_err-value
write-returns-in_err-value t c = rw (passed_on c.from_residual-in_err-value.result c.from_residual-in_err-value.ensures.1)
    (write_fail_second c.requires.pre c.requires.at_value c.expression.ensures
    c.in_ok-object.was c.expression-2.ensures
    c.in_err-value.was)

pub write-set-requires : goal.write-set-requires
write-set-requires t c = write_pre c.requires.pre c.requires.at_value c.expression.ensures
    c.in_ok-object.was c.expression-2.ensures
    c.in_ok-value.was

pub write-returns : goal.write-returns
write-returns t c = write_done c.requires.pre c.requires.at_value c.expression.ensures
    c.in_ok-object.was c.expression-2.ensures
    c.in_ok-value.was c.set.ensures.0
    c.set.ensures.1

pub unary-returns-in_err-child : goal.unary-returns-in_err-child
unary-returns-in_err-child t c = rw (passed_on c.from_residual.result c.from_residual.ensures.1)
    (unary_fail c.requires.pre c.expression.ensures c.requires.unary
    c.in_err-child.was)

pub arguments-offset_bounds-program-next : goal.arguments-offset_bounds-program-next
arguments-offset_bounds-program-next t c = omega (arith, (in_row (argument_pre c.loop-i.invariant c.loop-i-test.true)).3)

pub expression-letter_at-requires : goal.expression-letter_at-requires
expression-letter_at-requires t c = omega (arith, (in_row c.requires).0)

pub items-offset_bounds-program-next : goal.items-offset_bounds-program-next
items-offset_bounds-program-next t c = omega (
  arith,
  (in_row
      (first_pre c.loop.invariant.pre (λ e. omega (arith, c.loop-test.true)))).3,
)

pub unary-letter_at-requires : goal.unary-letter_at-requires
unary-letter_at-requires t c = omega (arith, (in_row c.requires.pre).0)

pub unary-overflow_add-at : goal.unary-overflow_add-at
unary-overflow_add-at t c = omega (arith, (in_row c.requires.pre).3)

use native.Mathlib.Omega.{arith}
use mathlib.Core.Path.{◌≡◌, refl, ap, ◌∙◌, sym}
use Prim.Native.Nat.{ℕ, ◌+◌, ◌-◌, ◌<◌}
use Rattle.objects.specs.Values.{Gave, meaning, outcome}
use Rattle.objects.proofs.Values.{outcome_value, not_gave, meaning_null, word_of_outcome, outcome_stuck}
use Rattle.objects.proofs.Values.{case_truth, outcome_spent}
use Rattle.evaluator.proofs.Steps.{kept_of, in_rows, eval_spent, none_left, some_left, left_falls}
use Rattle.evaluator.proofs.Steps.{eval_entered, pre_entered, rest_one, one_pre, pre_apply}
use Rattle.evaluator.proofs.Steps.{one_fail, one_done}
use Rattle.evaluator.proofs.Lists.{list_first, items_start, items_head, items_broken, items_next}
use Rattle.evaluator.proofs.Lists.{items_ended}
use Rattle.evaluator.proofs.Arguments.{args_start, args_head, args_broken, args_next}
use Rattle.evaluator.proofs.Arguments.{args_ended}
use Rattle.evaluator.proofs.Blocks.{block_apart, block_locals, block_items, block_done}
use Rattle.evaluator.proofs.Calls.{call_apart, call_args, kept_args, call_fail, call_find}
use Rattle.evaluator.proofs.Calls.{call_enter, call_ends, call_done}
use Rattle.evaluator.proofs.Entering.{width_small, nested_small, in_ends, ends_at, here_pre, here_done}
use Rattle.evaluator.proofs.Entering.{own_pre, own_done, words_copied}
use lib.ListN.{length, length-replicate}
use Rattle.evaluator.proofs.Choices.{choose_apart, choose_first, choose_second, choose_third, choose_fail}
use Rattle.evaluator.proofs.Choices.{null_or_object, choose_stuck, choose_yes, choose_no}
use Rattle.evaluator.proofs.Sets.{set_apart, set_first, set_second, set_fail, set_fail_second, set_done}
use Rattle.evaluator.proofs.Sets.{set_object}
use Rattle.evaluator.proofs.+args_block_call_choose_enter_fresh_eval_items_one_child_set.Goals as goal

-- `args`

pub args-loop-slot-init : goal.args-loop-slot-init
args-loop-slot-init t c = let e : c.args.place.now.top - c.args.place.now.top ≡ 0 = omega arith in
    rw e (args_start c.requires (outcome_value 0 (omega arith) ∙ ap Gave meaning_null))

pub args-eval-r-requires : goal.args-eval-r-requires
args-eval-r-requires t c = (
  omega (arith, c.loop-slot.invariant.falls),
  list_first (args_head c.loop-slot.invariant (omega arith)),
)

pub args-returns-then-r-ge-STUCK : goal.args-returns-then-r-ge-STUCK
args-returns-then-r-ge-STUCK t c = args_broken c.loop-slot.invariant (omega arith)
    c.eval-r.ensures
    (not_gave c.eval-r.result c.if-r-ge-STUCK.true)

pub args-offset_bounds-program-next : goal.args-offset_bounds-program-next
args-offset_bounds-program-next t c = omega (
  arith,
  c.well_formed.1.0,
  (args_head c.loop-slot.invariant (omega arith)).in_ends,
)

pub args-bounds-program-next : goal.args-bounds-program-next
args-bounds-program-next t c = omega (arith, (args_head c.loop-slot.invariant (omega arith)).in_ends)

pub args-loop-slot-preserved : goal.args-loop-slot-preserved
args-loop-slot-preserved t c = let e : c.loop-slot.slot + 1 - c.args.place.now.top ≡ c.loop-slot.slot - c.args.place.now.top + 1 = omega arith in
    rw e (args_next c.loop-slot.invariant (omega arith) c.eval-r.ensures
    c.eval-r.result (outcome_value c.eval-r.result c.if-r-ge-STUCK.false)
    refl
    (word_of_outcome c.eval-r.result c.if-r-ge-STUCK.false
    (kept_of (list_first (args_head c.loop-slot.invariant (omega arith)))
    c.eval-r.ensures).small))

pub args-returns : goal.args-returns
args-returns t c = args_ended c.loop-slot.invariant (omega arith)

-- `block`

pub block-open_locals-requires : goal.block-open_locals-requires
block-open_locals-requires t c = rw c.first-n.ensures
    (block_locals (block_apart c.requires.pre_entered c.requires.at_value))

pub block-items-requires : goal.block-items-requires
block-items-requires t c = (
  omega (arith, c.second-k.type_inv),
  rw (c.first-n.ensures, c.second-k.ensures)
      (block_items (block_apart c.requires.pre_entered c.requires.at_value)
      (rw c.first-n.ensures at c.open_locals.ensures)
      (omega (arith, c.second-k.type_inv, c.second-k.ensures))),
)

pub block-returns : goal.block-returns
block-returns t c = block_done c.args.at
    c.requires.at_value
    (rw c.first-n.ensures at c.open_locals.ensures)
    (omega (arith, c.second-k.type_inv, c.second-k.ensures))
    (rw (c.first-n.ensures, c.second-k.ensures) at c.items.ensures)

-- `call`

pub call-args-r-requires : goal.call-args-r-requires
call-args-r-requires t c = (
  omega (
    arith,
    (call_apart c.requires.pre_entered c.requires.at_value).many,
    (call_apart c.requires.pre_entered c.requires.at_value).few,
  ),
  rw c.second-n.ensures (call_args (call_apart c.requires.pre_entered c.requires.at_value)),
)

pub call-returns-then-r-ge-STUCK : goal.call-returns-then-r-ge-STUCK
call-returns-then-r-ge-STUCK t c = call_fail c.args.at
    c.requires.at_value (rw c.second-n.ensures at c.args-r.ensures)
    (not_gave c.args-r.result c.if-r-ge-STUCK.true)

pub call-find_body-requires : goal.call-find_body-requires
call-find_body-requires t c = rw c.first-m.ensures (call_find (call_apart c.requires.pre_entered
    c.requires.at_value)
    (rw c.second-n.ensures at c.args-r.ensures))

pub call-offset_bounds-program-b : goal.call-offset_bounds-program-b
call-offset_bounds-program-b t c =
    let h : c.in-Ok.b < length c.args.program.now.ends.now
    = in_ends (call_enter (call_apart c.requires.pre_entered c.requires.at_value)
    (rw c.second-n.ensures at c.args-r.ensures)
    (rw (c.first-m.ensures, c.second-n.ensures) at c.in-Ok.ensures)) in
    omega arith

pub call-bounds-program-b : goal.call-bounds-program-b
call-bounds-program-b t c = let x = call_apart c.requires.pre_entered c.requires.at_value in
    let p = call_enter x (rw c.second-n.ensures at c.args-r.ensures) (rw (c.first-m.ensures, c.second-n.ensures) at c.in-Ok.ensures) in
    in_ends p

pub call-overflow_sub-size : goal.call-overflow_sub-size
call-overflow_sub-size t c = let x = call_apart c.requires.pre_entered c.requires.at_value in
    let p = call_enter x (rw c.second-n.ensures at c.args-r.ensures) (rw (c.first-m.ensures, c.second-n.ensures) at c.in-Ok.ensures) in
    omega (arith, ends_at p)

pub call-frame_width-width-requires : goal.call-frame_width-width-requires
call-frame_width-width-requires t c = let x = call_apart c.requires.pre_entered c.requires.at_value in
    let p = call_enter x (rw c.second-n.ensures at c.args-r.ensures) (rw (c.first-m.ensures, c.second-n.ensures) at c.in-Ok.ensures) in
    rw c.second-n.ensures p.few

pub call-overflow_add-place : goal.call-overflow_add-place
call-overflow_add-place t c = let x = call_apart c.requires.pre_entered c.requires.at_value in
    let p = call_enter x (rw c.second-n.ensures at c.args-r.ensures) (rw (c.first-m.ensures, c.second-n.ensures) at c.in-Ok.ensures) in
    omega (
      arith,
      width_small p (rw c.second-n.ensures at c.frame_width-width.ensures),
      p.there,
      (kept_args x (rw c.second-n.ensures at c.args-r.ensures)).long,
      c.requires.pre_entered.ready.whole,
    )

pub call-overflow_mul-most_nested : goal.call-overflow_mul-most_nested
call-overflow_mul-most_nested t c = let x = call_apart c.requires.pre_entered c.requires.at_value in
    let p = call_enter x (rw c.second-n.ensures at c.args-r.ensures) (rw (c.first-m.ensures, c.second-n.ensures) at c.in-Ok.ensures) in
    omega (arith, nested_small p c.most_nested.ensures)

pub call-overflow_add-place-in-Ok : goal.call-overflow_add-place-in-Ok
call-overflow_add-place-in-Ok t c = let x = call_apart c.requires.pre_entered c.requires.at_value in
    let p = call_enter x (rw c.second-n.ensures at c.args-r.ensures) (rw (c.first-m.ensures, c.second-n.ensures) at c.in-Ok.ensures) in
    omega (
      arith,
      width_small p (rw c.second-n.ensures at c.frame_width-width.ensures),
      nested_small p c.most_nested.ensures,
      p.there,
      (kept_args x (rw c.second-n.ensures at c.args-r.ensures)).long,
      c.requires.pre_entered.ready.whole,
    )

pub call-enter_fresh-requires : goal.call-enter_fresh-requires
call-enter_fresh-requires t c = let x = call_apart c.requires.pre_entered c.requires.at_value in
    let p = call_enter x (rw c.second-n.ensures at c.args-r.ensures) (rw (c.first-m.ensures, c.second-n.ensures) at c.in-Ok.ensures) in (
      omega (arith, c.decreases, (kept_args x (rw c.second-n.ensures at c.args-r.ensures)).falls),
      (
        rw c.second-n.ensures p,
        c.frame_width-width.ensures,
      ),
    )

pub call-returns-then-place-width-gt1920 : goal.call-returns-then-place-width-gt1920
call-returns-then-place-width-gt1920 t c = call_done c.args.at c.requires.at_value (rw c.second-n.ensures at c.args-r.ensures)
    (outcome_value c.args-r.result (omega (arith, c.if-r-ge-STUCK.false))) (rw (c.first-m.ensures, c.second-n.ensures) at c.in-Ok.ensures) (rw c.second-n.ensures at c.enter_fresh.ensures)

pub call-eval-requires : goal.call-eval-requires
call-eval-requires t c = let x = call_apart c.requires.pre_entered c.requires.at_value in
    let p = call_enter x (rw c.second-n.ensures at c.args-r.ensures) (rw (c.first-m.ensures, c.second-n.ensures) at c.in-Ok.ensures) in (
      omega (arith, c.decreases, (kept_args x (rw c.second-n.ensures at c.args-r.ensures)).falls),
      rw c.second-n.ensures (here_pre (rw c.second-n.ensures at c.frame_width-width.ensures) c.most_nested.ensures
          (omega (arith, c.if-place-width-gt1920.false, p.whole)) p),
    )

pub call-returns-in-Err : goal.call-returns-in-Err
call-returns-in-Err t c = call_ends c.args.at c.requires.at_value (rw c.second-n.ensures at c.args-r.ensures)
    (outcome_value c.args-r.result (omega (arith, c.if-r-ge-STUCK.false))) (rw (c.first-m.ensures, c.second-n.ensures) at c.in-Err.ensures)

pub call-returns-else-place-width-gt1920 : goal.call-returns-else-place-width-gt1920
call-returns-else-place-width-gt1920 t c = let x = call_apart c.requires.pre_entered c.requires.at_value in
    let p = call_enter x (rw c.second-n.ensures at c.args-r.ensures) (rw (c.first-m.ensures, c.second-n.ensures) at c.in-Ok.ensures) in
    call_done c.args.at c.requires.at_value (rw c.second-n.ensures at c.args-r.ensures)
    (outcome_value c.args-r.result (omega (arith, c.if-r-ge-STUCK.false))) (rw (c.first-m.ensures, c.second-n.ensures) at c.in-Ok.ensures)
    (here_done (rw c.second-n.ensures at c.frame_width-width.ensures) c.most_nested.ensures
    (omega (arith, c.if-place-width-gt1920.false, p.whole)) (rw c.second-n.ensures at c.eval.ensures))

-- `choose`

pub choose-eval-n-requires : goal.choose-eval-n-requires
choose-eval-n-requires t c = (omega arith, choose_first (choose_apart c.requires.pre_entered c.requires.at_value))

pub choose-returns-then-n-ge-STUCK : goal.choose-returns-then-n-ge-STUCK
choose-returns-then-n-ge-STUCK t c = choose_fail c.args.at
    c.requires.at_value c.eval-n.ensures
    (not_gave c.eval-n.result c.if-n-ge-STUCK.true)

pub choose-returns-in_default : goal.choose-returns-in_default
choose-returns-in_default t c = rw outcome_stuck (choose_stuck c.args.at
    c.requires.at_value
    c.eval-n.ensures
    (outcome_value c.eval-n.result
    c.if-n-ge-STUCK.false)
    (null_or_object (meaning c.eval-n.result)
    (λ b e. c.in_default.not-Truth b (c.value_of.ensures ∙ e))))

pub choose-bounds-program-at : goal.choose-bounds-program-at
choose-bounds-program-at t c = omega (arith, (choose_apart c.requires.pre_entered c.requires.at_value).in_ends)

pub choose-eval-requires : goal.choose-eval-requires
choose-eval-requires t c = (
  omega (
    arith,
    (kept_of (choose_first (choose_apart c.requires.pre_entered c.requires.at_value))
        c.eval-n.ensures).falls,
  ),
  choose_second (choose_apart c.requires.pre_entered c.requires.at_value) c.eval-n.ensures,
)

pub choose-returns-then-b : goal.choose-returns-then-b
choose-returns-then-b t c = choose_yes c.args.at
    c.requires.at_value
    c.eval-n.ensures
    (outcome_value c.eval-n.result
    c.if-n-ge-STUCK.false)
    (case_truth (meaning c.eval-n.result) (sym c.value_of.ensures ∙ c.in-Truth.is))
    c.if-b.true
    c.eval.ensures

pub choose-bounds-program-yes : goal.choose-bounds-program-yes
choose-bounds-program-yes t c = omega (
  arith,
  (choose_apart c.requires.pre_entered c.requires.at_value).end_a,
  (choose_apart c.requires.pre_entered c.requires.at_value).in_ends_b,
)

pub choose-eval-requires-2 : goal.choose-eval-requires-2
choose-eval-requires-2 t c = (
  omega (
    arith,
    (kept_of (choose_first (choose_apart c.requires.pre_entered c.requires.at_value))
        c.eval-n.ensures).falls,
  ),
  choose_third (choose_apart c.requires.pre_entered c.requires.at_value) c.eval-n.ensures,
)

pub choose-returns : goal.choose-returns
choose-returns t c = choose_no c.args.at
    c.requires.at_value
    c.eval-n.ensures
    (outcome_value c.eval-n.result
    c.if-n-ge-STUCK.false)
    (case_truth (meaning c.eval-n.result) (sym c.value_of.ensures ∙ c.in-Truth.is))
    c.if-b.false
    c.eval-2.ensures

-- `enter_fresh`

pub enter_fresh-eval-requires : goal.enter_fresh-eval-requires
enter_fresh-eval-requires t c = (
  omega (arith, c.decreases),
  own_pre c.requires.width_value
      (omega (arith, length-replicate {A = ℕ} 1920 0, c.copy_call.ensures.long))
      (words_copied c.args.slots.now 1920 c.args.top c.copy_call.ensures
      c.requires.pre_enter.words)
      c.requires.pre_enter,
)

pub enter_fresh-returns : goal.enter_fresh-returns
enter_fresh-returns t c = own_done c.requires.width_value
    (omega (arith, length-replicate {A = ℕ} 1920 0, c.copy_call.ensures.long))
    (words_copied c.args.slots.now 1920 c.args.top c.copy_call.ensures
    c.requires.pre_enter.words)
    c.copy_call.ensures c.eval.ensures

-- `eval`

pub eval-returns-then-runs_out : goal.eval-returns-then-runs_out
eval-returns-then-runs_out t c = eval_spent outcome_spent (none_left c.runs_out.ensures.value c.if-runs_out.true)
    c.runs_out.ensures.tally_after

pub eval-letter_at-letter-requires : goal.eval-letter_at-letter-requires
eval-letter_at-letter-requires t c = omega (arith, in_rows c.requires)

pub eval-returns-then-is_leaf : goal.eval-returns-then-is_leaf
eval-returns-then-is_leaf t c = eval_entered (some_left c.runs_out.ensures.value c.if-runs_out.false)
    c.runs_out.ensures.tally_after
    (c.leaf.ensures.post _ _ _)

pub eval-one_child-requires : goal.eval-one_child-requires
eval-one_child-requires t c = (
  omega (
    arith,
    left_falls c.args.tally.now
        (some_left c.runs_out.ensures.value c.if-runs_out.false)
        c.runs_out.ensures.tally_after,
  ),
  (
    pre_entered (some_left c.runs_out.ensures.value c.if-runs_out.false)
        c.runs_out.ensures.tally_after c.requires,
    rest_one c.requires
        (sym (rw c.letter_at-letter.ensures at c.is_leaf.ensures)
        ∙ c.if-is_leaf.false)
        (λ e. omega arith)
        (λ e. omega arith)
        (λ e. omega arith)
        (λ e. omega arith),
  ),
)

pub eval-returns-in-66 : goal.eval-returns-in-66
eval-returns-in-66 t c = eval_entered (some_left c.runs_out.ensures.value c.if-runs_out.false)
    c.runs_out.ensures.tally_after c.block.ensures

pub eval-returns-in-74 : goal.eval-returns-in-74
eval-returns-in-74 t c = eval_entered (some_left c.runs_out.ensures.value c.if-runs_out.false)
    c.runs_out.ensures.tally_after c.choose.ensures

pub eval-returns-in-81 : goal.eval-returns-in-81
eval-returns-in-81 t c = eval_entered (some_left c.runs_out.ensures.value c.if-runs_out.false)
    c.runs_out.ensures.tally_after c.call.ensures

pub eval-returns-in-85 : goal.eval-returns-in-85
eval-returns-in-85 t c = eval_entered (some_left c.runs_out.ensures.value c.if-runs_out.false)
    c.runs_out.ensures.tally_after c.set.ensures

pub eval-returns-in_default : goal.eval-returns-in_default
eval-returns-in_default t c = eval_entered (some_left c.runs_out.ensures.value c.if-runs_out.false)
    c.runs_out.ensures.tally_after c.one_child.ensures

-- `items`

pub items-loop-init : goal.items-loop-init
items-loop-init t c = items_start c.requires (omega arith) (outcome_value 0 (omega arith) ∙ ap Gave meaning_null)

pub items-eval-r-requires : goal.items-eval-r-requires
items-eval-r-requires t c = (
  omega (arith, c.loop.invariant.falls),
  list_first (items_head c.loop.invariant c.loop-test.true),
)

pub items-returns-then-r-ge-STUCK : goal.items-returns-then-r-ge-STUCK
items-returns-then-r-ge-STUCK t c = items_broken c.loop.invariant c.loop-test.true
    c.eval-r.ensures refl
    (not_gave c.eval-r.result c.if-r-ge-STUCK.true)

pub items-offset_bounds-program-next : goal.items-offset_bounds-program-next
items-offset_bounds-program-next t c = omega (arith, (items_head c.loop.invariant c.loop-test.true).in_ends)

pub items-bounds-program-next : goal.items-bounds-program-next
items-bounds-program-next t c = omega (arith, (items_head c.loop.invariant c.loop-test.true).in_ends)

pub items-loop-preserved : goal.items-loop-preserved
items-loop-preserved t c = items_next c.loop.invariant c.loop-test.true c.eval-r.ensures
    (outcome_value c.eval-r.result (omega (arith, c.if-r-ge-STUCK.false)))

pub items-returns : goal.items-returns
items-returns t c = items_ended c.loop.invariant refl c.loop-test.false

-- `one_child`

pub one_child-eval-n-requires : goal.one_child-eval-n-requires
one_child-eval-n-requires t c = (omega arith, one_pre c.requires.pre_entered c.requires.at_value)

pub one_child-returns-then-n-ge-STUCK : goal.one_child-returns-then-n-ge-STUCK
one_child-returns-then-n-ge-STUCK t c = one_fail c.args.at
    c.requires.at_value c.eval-n.ensures
    (not_gave c.eval-n.result c.if-n-ge-STUCK.true)

pub one_child-apply-requires : goal.one_child-apply-requires
one_child-apply-requires t c = pre_apply c.eval-n.result c.requires.pre_entered c.requires.at_value c.eval-n.ensures
    (outcome_value c.eval-n.result c.if-n-ge-STUCK.false)
    c.if-n-ge-STUCK.false

pub one_child-returns : goal.one_child-returns
one_child-returns t c = one_done c.args.at
    c.requires.at_value
    c.eval-n.ensures
    (outcome c.apply.result)
    (outcome_value c.eval-n.result c.if-n-ge-STUCK.false)
    c.apply.ensures

-- `set`

pub set-eval-n-requires : goal.set-eval-n-requires
set-eval-n-requires t c = (omega arith, set_first (set_apart c.requires.pre_entered c.requires.at_value))

pub set-returns-then-n-ge-STUCK : goal.set-returns-then-n-ge-STUCK
set-returns-then-n-ge-STUCK t c = set_fail c.args.at
    c.requires.at_value c.eval-n.ensures
    (not_gave c.eval-n.result c.if-n-ge-STUCK.true)

pub set-bounds-program-at : goal.set-bounds-program-at
set-bounds-program-at t c = omega (arith, (set_apart c.requires.pre_entered c.requires.at_value).in_ends)

pub set-eval-n2-requires : goal.set-eval-n2-requires
set-eval-n2-requires t c = (
  omega (
    arith,
    (kept_of (set_first (set_apart c.requires.pre_entered c.requires.at_value))
        c.eval-n.ensures).falls,
  ),
  set_second (set_apart c.requires.pre_entered c.requires.at_value) c.eval-n.ensures,
)

pub set-returns-then-n2-ge-STUCK : goal.set-returns-then-n2-ge-STUCK
set-returns-then-n2-ge-STUCK t c = set_fail_second c.args.at
    c.requires.at_value
    c.eval-n.ensures
    (outcome_value c.eval-n.result
    c.if-n-ge-STUCK.false)
    c.eval-n2.ensures
    (not_gave c.eval-n2.result c.if-n2-ge-STUCK.true)

pub set-save-requires : goal.set-save-requires
set-save-requires t c = let x = set_apart c.requires.pre_entered c.requires.at_value in record {
  pre_object = set_object x c.eval-n.ensures c.eval-n2.ensures;
  f_bound = (
    omega (arith, c.first.ensures, x.first, x.name),
    word_of_outcome c.eval-n2.result c.if-n2-ge-STUCK.false
        (kept_of (set_second x c.eval-n.ensures) c.eval-n2.ensures).small,
  );
}

pub set-returns : goal.set-returns
set-returns t c = set_done c.args.at
    c.requires.at_value
    c.eval-n.ensures
    (outcome_value c.eval-n.result
    c.if-n-ge-STUCK.false)
    c.eval-n2.ensures
    (outcome c.save.result)
    (outcome_value c.eval-n2.result c.if-n2-ge-STUCK.false)
    (rw c.first.ensures at c.save.ensures)

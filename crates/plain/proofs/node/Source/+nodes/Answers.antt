-- What is left to prove of the members of the cycle.
use mathlib.Core.Logic.{◌≢◌}
use mathlib.Core.Path.{◌∙◌, sym}
use Prim.Native.Nat.{◌+◌, ◌-◌}
use native.Mathlib.Omega.{arith}
use Rattle.plain.proofs.Nodes.{arguments_start, arguments_first, arguments_line, arguments_more, arguments_end}
use Rattle.plain.proofs.Nodes.{nodes_first, left_start, left_more, left_end}
use Rattle.plain.proofs.Tasks.{node_row, cast_small, cast_room, cast_child, cast_done}
use Rattle.plain.proofs.Blocks.{block_known, block_some_types, block_some, block_ended, block_done}
use Rattle.plain.proofs.Calls.{call_row, call_known, call_found, call_some_types, call_ended}
use Rattle.plain.proofs.Calls.{call_some_arguments, call_room_after, call_done}
use Rattle.plain.proofs.Arms.{slot_arm, new_arm, change_arm, is_null_arm, assign_arm, get_arm}
use Rattle.plain.proofs.Arms.{choose_arm, cast_arm, set_arm, call_arm, block_arm, rest_letter}
use Rattle.plain.proofs.Arms.{literal_arm, row_known, slot_known, new_known, change_known}
use Rattle.plain.proofs.Arms.{literal_known, is_null_known, is_null_some, assign_known, assign_some}
use Rattle.plain.proofs.Arms.{get_known, get_some, choose_known, choose_some, cast_some, set_some}
use Rattle.plain.proofs.Arms.{call_some, block_some as block_some_node}
use Rattle.plain.proofs.Sets.{set_row, set_fits, set_ended, set_room_after, set_known, set_found}
use Rattle.plain.proofs.Sets.{set_within, set_done}
use Rattle.plain.proofs.node.Source.+nodes.Goals as goal

-- What is left to prove of `emit_arguments`.

pub emit_arguments-loop-temporary-init : goal.emit_arguments-loop-temporary-init
emit_arguments-loop-temporary-init t c = arguments_start (omega arith) c.requires

pub emit_arguments-put-p-requires : goal.emit_arguments-put-p-requires
emit_arguments-put-p-requires t c =
    (arguments_line c.loop-temporary.invariant.rest (λ e. omega (arith, e, c.loop-temporary-test.true))).0

pub emit_arguments-emit_node-next-requires : goal.emit_arguments-emit_node-next-requires
emit_arguments-emit_node-next-requires t c =
    let h : c.args.slot + c.args.count - c.loop-temporary.temporary ≢ 0 =
    λ e. omega (arith, e, c.loop-temporary-test.true) in (
      omega (arith, c.loop-temporary.invariant.below, arguments_line c.loop-temporary.invariant.rest h),
      arguments_first c.loop-temporary.invariant.rest h _ c.put-p.ensures.ended,
    )

pub emit_arguments-loop-temporary-preserved : goal.emit_arguments-loop-temporary-preserved
emit_arguments-loop-temporary-preserved t c =
    arguments_more c.loop-temporary.invariant (omega arith) c.put-p.ensures c.emit_node-next.ensures

pub emit_arguments-returns : goal.emit_arguments-returns
emit_arguments-returns t c = arguments_end c.loop-temporary.invariant (omega arith)

-- What is left to prove of `emit_block`.

pub emit_block-first-locals-requires : goal.emit_block-first-locals-requires
emit_block-first-locals-requires t c = omega (arith, node_row c.requires.task)

pub emit_block-second-count-requires : goal.emit_block-second-count-requires
emit_block-second-count-requires t c = omega (arith, node_row c.requires.task)

pub emit_block-put-p-requires : goal.emit_block-put-p-requires
emit_block-put-p-requires t c = omega (arith, block_known c.first-locals.ensures c.second-count.ensures c.requires)

pub emit_block-overflow_add-at : goal.emit_block-overflow_add-at
emit_block-overflow_add-at t c = omega (arith, node_row c.requires.task)

pub emit_block-put_types-p-requires : goal.emit_block-put_types-p-requires
emit_block-put_types-p-requires t c = record {
  some_types = block_some_types c.first-locals.ensures c.second-count.ensures c.requires;
  count_bound = omega (arith, block_known c.first-locals.ensures c.second-count.ensures c.requires, c.put-p.ensures.ended);
}

pub emit_block-with_locals-slots-requires : goal.emit_block-with_locals-slots-requires
emit_block-with_locals-slots-requires t c = (
  (block_known c.first-locals.ensures c.second-count.ensures c.requires).3,
  (block_known c.first-locals.ensures c.second-count.ensures c.requires).4,
  (block_known c.first-locals.ensures c.second-count.ensures c.requires).5,
)

pub emit_block-overflow_add-inner-2 : goal.emit_block-overflow_add-inner-2
emit_block-overflow_add-inner-2 t c = omega (arith, block_known c.first-locals.ensures c.second-count.ensures c.requires)

pub emit_block-overflow_add-at-2 : goal.emit_block-overflow_add-at-2
emit_block-overflow_add-at-2 t c = omega (arith, node_row c.requires.task)

pub emit_block-overflow_add-at-3 : goal.emit_block-overflow_add-at-3
emit_block-overflow_add-at-3 t c = omega (arith, block_known c.first-locals.ensures c.second-count.ensures c.requires)

pub emit_block-emit_nodes-requires : goal.emit_block-emit_nodes-requires
emit_block-emit_nodes-requires t c = (
  omega (arith, block_known c.first-locals.ensures c.second-count.ensures c.requires),
  block_some c.first-locals.ensures c.second-count.ensures c.requires _
      c.with_locals-slots.ensures _
      (block_ended c.first-locals.ensures c.second-count.ensures c.requires
      c.put-p.ensures c.put_types-p.ensures),
)

pub emit_block-returns : goal.emit_block-returns
emit_block-returns t c = block_done c.first-locals.ensures c.second-count.ensures _ c.put-p.ensures
    c.put_types-p.ensures c.with_locals-slots.ensures
    c.emit_nodes.ensures

-- What is left to prove of `emit_call`.

pub emit_call-first-name-requires : goal.emit_call-first-name-requires
emit_call-first-name-requires t c = omega (arith, call_row c.requires)

pub emit_call-second-count-requires : goal.emit_call-second-count-requires
emit_call-second-count-requires t c = omega (arith, call_row c.requires)

pub emit_call-offset_bounds-self-at : goal.emit_call-offset_bounds-self-at
emit_call-offset_bounds-self-at t c = omega (arith, call_row c.requires)

pub emit_call-bounds-self-at : goal.emit_call-bounds-self-at
emit_call-bounds-self-at t c = omega (arith, call_row c.requires)

pub emit_call-class_entry-entry-requires : goal.emit_call-class_entry-entry-requires
emit_call-class_entry-entry-requires t c = (call_known c.first-name.ensures c.second-count.ensures c.from-class.ensures c.requires).1

pub emit_call-overflow_sub-entry : goal.emit_call-overflow_sub-entry
emit_call-overflow_sub-entry t c = (call_found c.first-name.ensures c.second-count.ensures c.from-class.ensures
    c.class_entry-entry.ensures c.requires).0

pub emit_call-bounds-self-entry : goal.emit_call-bounds-self-entry
emit_call-bounds-self-entry t c = omega (arith, call_found c.first-name.ensures c.second-count.ensures c.from-class.ensures c.class_entry-entry.ensures c.requires)

pub emit_call-overflow_add-nodes : goal.emit_call-overflow_add-nodes
emit_call-overflow_add-nodes t c = omega (arith, call_known c.first-name.ensures c.second-count.ensures c.from-class.ensures c.requires)

pub emit_call-overflow_add-head : goal.emit_call-overflow_add-head
emit_call-overflow_add-head t c = omega (arith, call_known c.first-name.ensures c.second-count.ensures c.from-class.ensures c.requires)

pub emit_call-put-p-requires : goal.emit_call-put-p-requires
emit_call-put-p-requires t c = omega (arith, call_known c.first-name.ensures c.second-count.ensures c.from-class.ensures c.requires)

pub emit_call-put_types-p-requires : goal.emit_call-put_types-p-requires
emit_call-put_types-p-requires t c = record {
  some_types = call_some_types c.first-name.ensures c.second-count.ensures c.from-class.ensures
      c.class_entry-entry.ensures c.from-row.ensures c.requires;
  count_bound = omega (arith, call_known c.first-name.ensures c.second-count.ensures c.from-class.ensures c.requires, c.put-p.ensures.ended);
}

pub emit_call-overflow_add-inner : goal.emit_call-overflow_add-inner
emit_call-overflow_add-inner t c = omega (arith, call_known c.first-name.ensures c.second-count.ensures c.from-class.ensures c.requires)

pub emit_call-overflow_add-at : goal.emit_call-overflow_add-at
emit_call-overflow_add-at t c = omega (arith, call_row c.requires)

pub emit_call-emit_arguments-r-requires : goal.emit_call-emit_arguments-r-requires
emit_call-emit_arguments-r-requires t c = (
  omega (arith, call_row c.requires),
  call_some_arguments c.first-name.ensures c.second-count.ensures c.from-class.ensures c.requires _
      (call_ended c.first-name.ensures c.second-count.ensures c.from-class.ensures
      c.class_entry-entry.ensures c.from-row.ensures c.requires c.put-p.ensures
      c.put_types-p.ensures),
)

pub emit_call-put-q-requires : goal.emit_call-put-q-requires
emit_call-put-q-requires t c = omega (arith, call_room_after c.first-name.ensures c.second-count.ensures c.from-class.ensures c.requires (call_ended c.first-name.ensures c.second-count.ensures c.from-class.ensures c.class_entry-entry.ensures c.from-row.ensures c.requires c.put-p.ensures c.put_types-p.ensures) c.emit_arguments-r.ensures)

pub emit_call-put_reads-place-requires : goal.emit_call-put_reads-place-requires
emit_call-put_reads-place-requires t c = (
  omega (arith, call_room_after c.first-name.ensures c.second-count.ensures c.from-class.ensures c.requires (call_ended c.first-name.ensures c.second-count.ensures c.from-class.ensures c.class_entry-entry.ensures c.from-row.ensures c.requires c.put-p.ensures c.put_types-p.ensures) c.emit_arguments-r.ensures, c.put-q.ensures.ended),
  omega (arith, call_known c.first-name.ensures c.second-count.ensures c.from-class.ensures c.requires),
)

pub emit_call-returns : goal.emit_call-returns
emit_call-returns t c = call_done c.first-name.ensures c.second-count.ensures c.from-class.ensures c.class_entry-entry.ensures c.from-row.ensures
    c.put-p.ensures c.put_types-p.ensures c.emit_arguments-r.ensures
    c.put-q.ensures c.put_reads-place.ensures

-- What is left to prove of `emit_cast`.

pub emit_cast-put-p-requires : goal.emit_cast-put-p-requires
emit_cast-put-p-requires t c = omega (arith, cast_room c.requires.task)

pub emit_cast-overflow_add-at : goal.emit_cast-overflow_add-at
emit_cast-overflow_add-at t c = omega (arith, node_row c.requires.task)

pub emit_cast-emit_node-r-requires : goal.emit_cast-emit_node-r-requires
emit_cast-emit_node-r-requires t c = (
  omega (arith, node_row c.requires.task),
  record {
    P = c.requires.P;
    E = c.requires.E;
    e = c.requires.e;
    γ = c.requires.γ;
    sh = _;
    task = cast_child c.requires.task _
        c.put-p.ensures.ended;
  },
)

pub emit_cast-first-requires : goal.emit_cast-first-requires
emit_cast-first-requires t c = omega (arith, node_row c.requires.task)

pub emit_cast-overflow_add-tail : goal.emit_cast-overflow_add-tail
emit_cast-overflow_add-tail t c = omega (arith, c.first.ensures, cast_small c.requires.task)

pub emit_cast-put-place-requires : goal.emit_cast-put-place-requires
emit_cast-put-place-requires t c = omega (arith, cast_room c.requires.task, c.put-p.ensures.ended, (c.emit_node-r.ensures.each c.requires.P c.requires.E c.requires.e c.requires.γ _ (cast_child c.requires.task _ c.put-p.ensures.ended)).written.ended)

pub emit_cast-returns : goal.emit_cast-returns
emit_cast-returns t c = record {
  each = λ P E k e γ sh t.
      cast_done c.first.ensures t c.put-p.ensures c.emit_node-r.ensures
      c.put-place.ensures;
}

-- What is left to prove of `emit_node`.

pub emit_node-returns-in-84 : goal.emit_node-returns-in-84
emit_node-returns-in-84 t c = literal_arm (rw c.letter_at-letter.ensures at c.in-84.is)
    (rw c.letter_at-letter.ensures at c.put-place.ensures)

pub emit_node-returns-in-73 : goal.emit_node-returns-in-73
emit_node-returns-in-73 t c = slot_arm (sym c.letter_at-letter.ensures ∙ c.in-73.is)
    (rw c.first-number.ensures at c.put_slot-place.ensures)

pub emit_node-returns-in-87 : goal.emit_node-returns-in-87
emit_node-returns-in-87 t c = new_arm (sym c.letter_at-letter.ensures ∙ c.in-87.is)
    (rw c.first-number.ensures at c.put_new-place.ensures)

pub emit_node-returns-in-82 : goal.emit_node-returns-in-82
emit_node-returns-in-82 t c = change_arm (sym c.letter_at-letter.ensures ∙ c.in-82.is)
    (rw (
      c.first-number.ensures,
      c.second-target.ensures,
    ) at c.put_change-place.ensures)

pub emit_node-returns-in-90 : goal.emit_node-returns-in-90
emit_node-returns-in-90 t c = is_null_arm (sym c.letter_at-letter.ensures ∙ c.in-90.is) c.put-p.ensures
    c.emit_node.ensures

pub emit_node-returns-in-65 : goal.emit_node-returns-in-65
emit_node-returns-in-65 t c = assign_arm (sym c.letter_at-letter.ensures ∙ c.in-65.is)
    (rw c.first-number.ensures at c.put-p-in-65.ensures) c.emit_node-in-65.ensures

pub emit_node-returns-in-71 : goal.emit_node-returns-in-71
emit_node-returns-in-71 t c = get_arm (sym c.letter_at-letter.ensures ∙ c.in-71.is)
    (rw (c.first-number.ensures, c.from.ensures) at c.put-p-in-71.ensures) c.emit_node-in-71.ensures

pub emit_node-returns-in-75 : goal.emit_node-returns-in-75
emit_node-returns-in-75 t c = cast_arm (sym c.letter_at-letter.ensures ∙ c.in-75.is)
    c.emit_cast.ensures

pub emit_node-returns-in-85 : goal.emit_node-returns-in-85
emit_node-returns-in-85 t c = set_arm (sym c.letter_at-letter.ensures ∙ c.in-85.is)
    c.emit_set.ensures

pub emit_node-returns-in-81 : goal.emit_node-returns-in-81
emit_node-returns-in-81 t c = call_arm (sym c.letter_at-letter.ensures ∙ c.in-81.is)
    c.emit_call.ensures

pub emit_node-returns-in-74 : goal.emit_node-returns-in-74
emit_node-returns-in-74 t c = choose_arm (sym c.letter_at-letter.ensures ∙ c.in-74.is) c.put-p-in-74.ensures
    c.emit_nodes.ensures

pub emit_node-returns-in_default : goal.emit_node-returns-in_default
emit_node-returns-in_default t c = block_arm (sym c.letter_at-letter.ensures ∙ rest_letter c.requires
    c.letter_at-letter.ensures
    (grind arith) (grind arith) (grind arith) (omega arith) (omega arith) (omega arith) (omega arith)
    (omega arith) (omega arith) (omega arith) (omega arith) (omega arith) (omega arith)) c.emit_block.ensures

pub emit_node-letter_at-letter-requires : goal.emit_node-letter_at-letter-requires
emit_node-letter_at-letter-requires t c = omega (arith, row_known c.requires)

pub emit_node-first-number-requires : goal.emit_node-first-number-requires
emit_node-first-number-requires t c = omega (arith, row_known c.requires)

pub emit_node-overflow_add-next : goal.emit_node-overflow_add-next
emit_node-overflow_add-next t c = omega (arith, row_known c.requires)

pub emit_node-put-place-requires : goal.emit_node-put-place-requires
emit_node-put-place-requires t c = literal_known c.requires (rw c.letter_at-letter.ensures at c.in-84.is)

pub emit_node-bounds-scope-number : goal.emit_node-bounds-scope-number
emit_node-bounds-scope-number t c = omega (arith, c.first-number.ensures, slot_known c.requires (sym c.letter_at-letter.ensures ∙ c.in-73.is))

pub emit_node-put_slot-place-requires : goal.emit_node-put_slot-place-requires
emit_node-put_slot-place-requires t c = rw c.first-number.ensures
    (slot_known c.requires
    (sym c.letter_at-letter.ensures ∙ c.in-73.is)).1

pub emit_node-put_new-place-requires : goal.emit_node-put_new-place-requires
emit_node-put_new-place-requires t c = rw c.first-number.ensures
    (new_known c.requires
    (sym c.letter_at-letter.ensures ∙ c.in-87.is))

pub emit_node-bounds-scope-number-in-82 : goal.emit_node-bounds-scope-number-in-82
emit_node-bounds-scope-number-in-82 t c = omega (arith, c.first-number.ensures, change_known c.requires (sym c.letter_at-letter.ensures ∙ c.in-82.is))

pub emit_node-put_change-place-requires : goal.emit_node-put_change-place-requires
emit_node-put_change-place-requires t c = let k = change_known c.requires
    (sym c.letter_at-letter.ensures ∙ c.in-82.is) in
    rw (c.first-number.ensures, c.second-target.ensures) record { some_change = k.1; next_bound = (k.2, k.3) }

pub emit_node-put-p-requires : goal.emit_node-put-p-requires
emit_node-put-p-requires t c = is_null_known c.requires (sym c.letter_at-letter.ensures ∙ c.in-90.is)

pub emit_node-emit_node-requires : goal.emit_node-emit_node-requires
emit_node-emit_node-requires t c = (
  omega (arith, row_known c.requires),
  is_null_some c.requires (sym c.letter_at-letter.ensures ∙ c.in-90.is) _
      c.put-p.ensures.ended,
)

pub emit_node-bounds-scope-number-in-65 : goal.emit_node-bounds-scope-number-in-65
emit_node-bounds-scope-number-in-65 t c = omega (arith, c.first-number.ensures, assign_known c.requires (sym c.letter_at-letter.ensures ∙ c.in-65.is))

pub emit_node-put-p-requires-in-65 : goal.emit_node-put-p-requires-in-65
emit_node-put-p-requires-in-65 t c = (assign_known c.requires
    (sym c.letter_at-letter.ensures ∙ c.in-65.is)).1

pub emit_node-emit_node-requires-in-65 : goal.emit_node-emit_node-requires-in-65
emit_node-emit_node-requires-in-65 t c = (
  omega (arith, row_known c.requires),
  assign_some c.requires (sym c.letter_at-letter.ensures ∙ c.in-65.is) _
      c.put-p-in-65.ensures.ended,
)

pub emit_node-put-p-requires-in-71 : goal.emit_node-put-p-requires-in-71
emit_node-put-p-requires-in-71 t c = get_known c.requires
    (sym c.letter_at-letter.ensures ∙ c.in-71.is)

pub emit_node-emit_node-requires-in-71 : goal.emit_node-emit_node-requires-in-71
emit_node-emit_node-requires-in-71 t c = (
  omega (arith, row_known c.requires),
  get_some c.requires (sym c.letter_at-letter.ensures ∙ c.in-71.is) _
      c.put-p-in-71.ensures.ended,
)

pub emit_node-emit_cast-requires : goal.emit_node-emit_cast-requires
emit_node-emit_cast-requires t c = (
  omega arith,
  cast_some c.requires (sym c.letter_at-letter.ensures ∙
      c.in-75.is),
)

pub emit_node-emit_set-requires : goal.emit_node-emit_set-requires
emit_node-emit_set-requires t c = (
  omega arith,
  set_some c.requires (sym c.letter_at-letter.ensures ∙
      c.in-85.is),
)

pub emit_node-emit_call-requires : goal.emit_node-emit_call-requires
emit_node-emit_call-requires t c = (
  omega arith,
  call_some c.requires (sym c.letter_at-letter.ensures ∙
      c.in-81.is),
)

pub emit_node-put-p-requires-in-74 : goal.emit_node-put-p-requires-in-74
emit_node-put-p-requires-in-74 t c = choose_known c.requires (sym c.letter_at-letter.ensures ∙ c.in-74.is)

pub emit_node-emit_nodes-requires : goal.emit_node-emit_nodes-requires
emit_node-emit_nodes-requires t c = (
  omega (arith, row_known c.requires),
  choose_some c.requires (sym c.letter_at-letter.ensures ∙ c.in-74.is) _
      c.put-p-in-74.ensures.ended,
)

pub emit_node-emit_block-requires : goal.emit_node-emit_block-requires
emit_node-emit_block-requires t c = (
  omega arith,
  block_some_node c.requires (sym c.letter_at-letter.ensures
      ∙ rest_letter c.requires c.letter_at-letter.ensures
      (grind arith) (grind arith) (grind arith) (omega arith) (omega arith) (omega arith) (omega arith)
      (omega arith) (omega arith) (omega arith) (omega arith) (omega arith) (omega arith)),
)

-- What is left to prove of `emit_nodes`.

pub emit_nodes-loop-init : goal.emit_nodes-loop-init
emit_nodes-loop-init t c = left_start (omega arith) c.requires

pub emit_nodes-emit_node-next-requires : goal.emit_nodes-emit_node-next-requires
emit_nodes-emit_node-next-requires t c =
    let x = nodes_first c.loop.invariant.rest (λ e. omega (arith, e, c.loop-test.true)) in
    (omega (arith, c.loop.invariant.below, row_known x), x)

pub emit_nodes-loop-preserved : goal.emit_nodes-loop-preserved
emit_nodes-loop-preserved t c = left_more c.loop.invariant (omega arith) c.emit_node-next.ensures

pub emit_nodes-returns : goal.emit_nodes-returns
emit_nodes-returns t c = left_end c.loop.invariant (omega arith)

-- What is left to prove of `emit_set`.

pub emit_set-first-name-requires : goal.emit_set-first-name-requires
emit_set-first-name-requires t c = omega (arith, set_row c.requires)

pub emit_set-offset_bounds-self-at : goal.emit_set-offset_bounds-self-at
emit_set-offset_bounds-self-at t c = omega (arith, set_row c.requires)

pub emit_set-bounds-self-at : goal.emit_set-bounds-self-at
emit_set-bounds-self-at t c = omega (arith, set_row c.requires)

pub emit_set-class_entry-field-requires : goal.emit_set-class_entry-field-requires
emit_set-class_entry-field-requires t c = (set_known c.first-name.ensures c.from-class.ensures c.requires).1

pub emit_set-class_entry-row-requires : goal.emit_set-class_entry-row-requires
emit_set-class_entry-row-requires t c = set_found c.first-name.ensures c.from-class.ensures c.class_entry-field.ensures c.requires

pub emit_set-first-requires : goal.emit_set-first-requires
emit_set-first-requires t c = omega (arith, set_within c.first-name.ensures c.from-class.ensures c.class_entry-field.ensures c.class_entry-row.ensures c.requires)

pub emit_set-put-p-requires : goal.emit_set-put-p-requires
emit_set-put-p-requires t c = omega (arith, set_fits c.requires)

pub emit_set-overflow_add-at : goal.emit_set-overflow_add-at
emit_set-overflow_add-at t c = omega (arith, set_row c.requires)

pub emit_set-emit_arguments-r-requires : goal.emit_set-emit_arguments-r-requires
emit_set-emit_arguments-r-requires t c = (
  omega (arith, set_row c.requires),
  set_ended c.requires c.put-p.ensures,
)

pub emit_set-put-place-requires : goal.emit_set-put-place-requires
emit_set-put-place-requires t c = set_room_after c.requires c.put-p.ensures.ended c.emit_arguments-r.ensures

pub emit_set-returns : goal.emit_set-returns
emit_set-returns t c = set_done c.first-name.ensures c.from-class.ensures c.class_entry-field.ensures
    c.class_entry-row.ensures c.first.ensures
    c.plain_type.ensures c.put-p.ensures
    c.emit_arguments-r.ensures c.put-place.ensures

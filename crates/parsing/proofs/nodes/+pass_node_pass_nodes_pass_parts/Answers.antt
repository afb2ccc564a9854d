-- A node: its row, its letter's parts, the nesting; what follows its row; nodes one after another. Assumes nothing.
use mathlib.Core.Path.{refl, sym, ◌∙◌}
use Prim.Native.Nat.{◌+◌}
use native.Mathlib.Omega.{arith}
use Rattle.std.proofs.lemmas.Result.{err_from_is_err_and}
use Rattle.language.specs.Form.{node, locals, several}
use Rattle.parsing.specs.Columns.{most_of}
use Rattle.parsing.specs.Places.{rows_from}
use Rattle.parsing.proofs.Places.{here, parts_same}
use Rattle.parsing.proofs.Passes.{told_as, told_refuse, told_end}
use Rattle.parsing.proofs.LineLaws.{ready_at}
use Rattle.parsing.proofs.NodeLaws.{node_refused, node_other, node_over, node_empty, node_leaf, node_parts}
use Rattle.parsing.proofs.NodeLaws.{reading_start, reading_end, reading_stop, reading_step}
use Rattle.parsing.proofs.NodeLaws.{parts_stop, parts_stop_late, parts_close}
use Rattle.parsing.proofs.nodes.+pass_node_pass_nodes_pass_parts.Goals as goal

-- ---- a node

pub pass_node-returns-in_err-check_row : goal.pass_node-returns-in_err-check_row
pass_node-returns-in_err-check_row t c =
    let p = err_from_is_err_and c.from_residual.result c.from_residual.ensures.1 in
    rw (p.1, p.2) (told_as (node_refused c.args.limits c.args.rows.now c.args.at c.args.slots c.args.nesting
    (sym c.in_err-check_row.ensures.0)) (told_refuse _ _))

pub pass_node-parts_of-requires : goal.pass_node-parts_of-requires
pass_node-parts_of-requires t c = omega (
  arith,
  (here c.args.rows.now c.args.at (sym c.in_ok-check_row.ensures.0) c.in_ok-check_row.ensures.1).second_small,
)

pub pass_node-returns-in_default : goal.pass_node-returns-in_default
pass_node-returns-in_default t c =
    rw c.refusal_at.ensures (told_as (node_other c.args.limits c.args.rows.now c.args.at c.args.slots
    (here c.args.rows.now c.args.at (sym c.in_ok-check_row.ensures.0) c.in_ok-check_row.ensures.1)
    c.args.nesting (sym c.in_default.is ∙ (c.parts_of.ensures
    ∙ parts_same c.letter_at-code.ensures c.first.ensures c.second.ensures)))
    (told_refuse 3 (c.args.at + 1)))

pub pass_node-returns-then-nesting-eq0 : goal.pass_node-returns-then-nesting-eq0
pass_node-returns-then-nesting-eq0 t c =
    rw c.refusal_at-then-nesting-eq0.ensures
    (told_as (node_over c.args.limits c.args.rows.now c.args.at c.args.slots
    (here c.args.rows.now c.args.at (sym c.in_ok-check_row.ensures.0) c.in_ok-check_row.ensures.1)
    (sym c.in-Some.is ∙ (c.parts_of.ensures
    ∙ parts_same c.letter_at-code.ensures c.first.ensures c.second.ensures))
    c.args.nesting c.if-nesting-eq0.true)
    (told_refuse 2 (c.args.at + 1)))

pub pass_node-returns-then-code-eq-BLOCK : goal.pass_node-returns-then-code-eq-BLOCK
pass_node-returns-then-code-eq-BLOCK t c =
    rw c.refusal_at-then-code-eq-BLOCK.ensures
    (told_as (node_empty c.args.limits c.args.rows.now c.args.at c.args.slots
    (here c.args.rows.now c.args.at (sym c.in_ok-check_row.ensures.0) c.in_ok-check_row.ensures.1)
    (sym c.in-Some.is ∙ (c.parts_of.ensures
    ∙ parts_same c.letter_at-code.ensures c.first.ensures c.second.ensures))
    c.args.nesting c.if-nesting-eq0.false c.if-parts-eq0.true
    (sym c.letter_at-code.ensures ∙ c.if-code-eq-BLOCK.true))
    (told_refuse 3 (c.args.at + 1)))

pub pass_node-returns-then-parts-eq0 : goal.pass_node-returns-then-parts-eq0
pass_node-returns-then-parts-eq0 t c = node_leaf c.args.limits c.args.rows.now c.args.at c.args.slots
    (here c.args.rows.now c.args.at (sym c.in_ok-check_row.ensures.0) c.in_ok-check_row.ensures.1)
    (sym c.in-Some.is ∙ (c.parts_of.ensures
    ∙ parts_same c.letter_at-code.ensures c.first.ensures c.second.ensures))
    c.args.nesting c.in_ok-check_row.ensures.1 c.if-nesting-eq0.false c.if-parts-eq0.true
    (λ e. c.if-code-eq-BLOCK.false (c.letter_at-code.ensures ∙ e))

pub pass_node-returns : goal.pass_node-returns
pass_node-returns t c = node_parts c.args.limits c.args.rows.now c.args.at c.args.slots
    (here c.args.rows.now c.args.at (sym c.in_ok-check_row.ensures.0) c.in_ok-check_row.ensures.1)
    (sym c.in-Some.is ∙ (c.parts_of.ensures
    ∙ parts_same c.letter_at-code.ensures c.first.ensures c.second.ensures))
    c.args.nesting c.if-nesting-eq0.false c.if-parts-eq0.false c.pass_parts.ensures

-- ---- nodes, one after another

pub pass_nodes-loop-init : goal.pass_nodes-loop-init
pass_nodes-loop-init t c = reading_start (λ at rs. node (most_of c.args.limits) c.args.nesting c.args.slots at rs)
    (omega arith) c.requires.0

pub pass_nodes-returns-in_default : goal.pass_nodes-returns-in_default
pass_nodes-returns-in_default t c =
    rw c.in_default.is (reading_stop c.loop.invariant (omega arith) c.pass_node-passed.ensures c.in_default.is)

pub pass_nodes-loop-preserved : goal.pass_nodes-loop-preserved
pass_nodes-loop-preserved t c = reading_step c.loop.invariant (omega arith) c.pass_node-passed.ensures c.in-Ok.is
    c.pass_node-passed.auto.ends (omega arith)

pub pass_nodes-returns : goal.pass_nodes-returns
pass_nodes-returns t c = reading_end c.loop.invariant (omega arith)

-- ---- what follows a node's row

pub pass_parts-pass_locals-requires : goal.pass_parts-pass_locals-requires
pass_parts-pass_locals-requires t c = (
  ready_at (c.args.at + 1) c.requires.0 refl (omega arith) (omega arith),
  c.requires.2,
)

pub pass_parts-returns-in_err-first : goal.pass_parts-returns-in_err-first
pass_parts-returns-in_err-first t c =
    let p = err_from_is_err_and c.from_residual.result c.from_residual.ensures.1 in
    λ make m. rw (p.1, p.2) (parts_stop c.args.at c.args.nesting c.args.slots c.args.parts.locals
    c.args.parts.children c.in_err-first.ensures.0 make refl)

pub pass_parts-pass_nodes-requires : goal.pass_parts-pass_nodes-requires
pass_parts-pass_nodes-requires t c = (
  omega arith,
  (
    told_end (locals (most_of c.args.limits) c.args.parts.locals c.args.slots (c.args.at + 1 + 1)
        (rows_from c.args.rows.now (c.args.at + 1))) c.in_ok-first.ensures.0 refl λ ts x y w o z.
        ready_at c.in_ok-first.first c.requires.0 c.pass_locals.auto.ends w o,
    c.in_ok-first.ensures.1 c.in_ok-first.first refl,
  ),
)

pub pass_parts-returns-in_err-next : goal.pass_parts-returns-in_err-next
pass_parts-returns-in_err-next t c =
    let p = err_from_is_err_and c.from_residual-in_err-next.result c.from_residual-in_err-next.ensures.1 in
    λ make m. rw (p.1, p.2) (parts_stop_late c.args.at c.args.nesting c.args.slots c.args.parts.locals
    c.args.parts.children c.in_ok-first.ensures.0 make refl c.in_err-next.ensures refl)

pub pass_parts-overflow_cast-ends : goal.pass_parts-overflow_cast-ends
pass_parts-overflow_cast-ends t c = told_end (several (λ at rs. node (most_of c.args.limits) c.args.nesting
    (c.args.slots + c.args.parts.locals) at rs) c.args.parts.children
    (c.in_ok-first.first + 1) (rows_from c.args.rows.now c.in_ok-first.first))
    c.in_ok-next.ensures refl λ es x y w o z. omega arith

pub pass_parts-returns : goal.pass_parts-returns
pass_parts-returns t c = λ make m. parts_close c.args.at c.args.nesting c.args.slots
    c.args.parts.locals c.args.parts.children c.in_ok-first.ensures.0 make refl
    c.in_ok-next.ensures refl m

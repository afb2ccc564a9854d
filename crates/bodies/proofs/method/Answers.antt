-- `bodies::method` meets its contract. Assumes nothing.
use mathlib.Core.Path.{ap, ◌∙◌}
use Prim.Native.Nat.{ℕ, ◌+◌, ◌*◌}
use lib.ListN.{get_or}
use Rattle.language.specs.Refusals.{refusal}
use native.Mathlib.Omega.{arith}
use Rattle.bodies.proofs.Methods.{owner_small, in_methods, in_effects, read_ready, read_pre, parameters_low, row_low}
use Rattle.bodies.proofs.Methods.{row_inside, body_typed, body_case, result_low}
use Rattle.bodies.proofs.Methods.{method_refused, method_unfit, method_wide, method_accepted}
use Rattle.expressions.proofs.Turns.{passed_on}
use Rattle.bodies.proofs.method.Goals as goal

pub method_row-at-requires : goal.method_row-at-requires
method_row-at-requires c = omega (arith, in_methods c.requires)

pub method_entry-owner-requires : goal.method_entry-owner-requires
method_entry-owner-requires c = omega (arith, in_methods c.requires)

pub method_entry-n-requires : goal.method_entry-n-requires
method_entry-n-requires c = omega (arith, in_methods c.requires)

pub method_entry-body-requires : goal.method_entry-body-requires
method_entry-body-requires c = in_methods c.requires

pub overflow_cast-owner : goal.overflow_cast-owner
overflow_cast-owner c = omega (arith, owner_small c.requires, c.method_entry-owner.ensures)

pub first-requires : goal.first-requires
first-requires c = omega (arith, row_inside c.requires, c.method_row-at.ensures)

pub refused-requires : goal.refused-requires
refused-requires c = omega (arith, row_low c.requires, c.method_row-at.ensures)

pub refused-requires-then-not-is_within : goal.refused-requires-then-not-is_within
refused-requires-then-not-is_within c = omega (arith, row_low c.requires, c.method_row-at.ensures)

pub offset_bounds-program-number : goal.offset_bounds-program-number
offset_bounds-program-number c = omega (arith, in_effects c.requires, c.well_formed)

pub bounds-program-number : goal.bounds-program-number
bounds-program-number c = in_effects c.requires

pub overflow_add-at : goal.overflow_add-at
overflow_add-at c = omega (arith, row_low c.requires, c.method_row-at.ensures)

pub enter-requires : goal.enter-requires
enter-requires c = read_ready (record { row = c.method_row-at.ensures; class = c.method_entry-owner.ensures; count = c.method_entry-n.ensures; start = c.method_entry-body.ensures }) c.requires

pub overflow_add-scope : goal.overflow_add-scope
overflow_add-scope c = omega (arith, parameters_low c.requires, c.method_entry-n.ensures)

pub expression-requires : goal.expression-requires
expression-requires c = read_pre (record { row = c.method_row-at.ensures; class = c.method_entry-owner.ensures; count = c.method_entry-n.ensures; start = c.method_entry-body.ensures }) c.requires c.enter.ensures

pub returns-in_err-r : goal.returns-in_err-r
returns-in_err-r c = rw (passed_on c.from_residual.result c.from_residual.ensures.1)
    (method_refused (body_typed (record { row = c.method_row-at.ensures; class = c.method_entry-owner.ensures; count = c.method_entry-n.ensures; start = c.method_entry-body.ensures }) c.enter.ensures c.expression.ensures) c.in_err-r.was)

pub is_fitting-requires : goal.is_fitting-requires
is_fitting-requires c = record {
  case_in = body_case (body_typed (record { row = c.method_row-at.ensures; class = c.method_entry-owner.ensures; count = c.method_entry-n.ensures; start = c.method_entry-body.ensures }) c.enter.ensures c.expression.ensures)
      c.in_ok-r.was c.requires;
  number_le_classes = result_low c.requires _ (c.from_number.ensures ∙ (c.first.ensures ∙ ap (λ (x : ℕ). get_or c.args.program.now.rows.now (x * 4 + 1) 0) c.method_row-at.ensures));
}

pub returns-then-not-is_fitting : goal.returns-then-not-is_fitting
returns-then-not-is_fitting c = method_unfit (body_typed (record { row = c.method_row-at.ensures; class = c.method_entry-owner.ensures; count = c.method_entry-n.ensures; start = c.method_entry-body.ensures }) c.enter.ensures c.expression.ensures)
    c.in_ok-r.was _
    (c.from_number.ensures ∙ (c.first.ensures ∙ ap (λ (x : ℕ). get_or c.args.program.now.rows.now (x * 4 + 1) 0) c.method_row-at.ensures)) _
    c.is_fitting.ensures
    (c.if-not-is_fitting.true) (c.refused.ensures ∙ ap (λ (x : ℕ). refusal 9 (x + 1)) c.method_row-at.ensures)

pub returns-then-not-is_within : goal.returns-then-not-is_within
returns-then-not-is_within c = method_wide (body_typed (record { row = c.method_row-at.ensures; class = c.method_entry-owner.ensures; count = c.method_entry-n.ensures; start = c.method_entry-body.ensures }) c.enter.ensures c.expression.ensures)
    c.in_ok-r.was _ (c.from_number.ensures ∙ (c.first.ensures ∙ ap (λ (x : ℕ). get_or c.args.program.now.rows.now (x * 4 + 1) 0) c.method_row-at.ensures)) _
    c.is_fitting.ensures
    (c.if-not-is_fitting.false) _ c.is_within.ensures
    (c.if-not-is_within.true) (c.refused-then-not-is_within.ensures ∙ ap (λ (x : ℕ). refusal 10 (x + 1)) c.method_row-at.ensures)

pub returns : goal.returns
returns c = method_accepted (body_typed (record { row = c.method_row-at.ensures; class = c.method_entry-owner.ensures; count = c.method_entry-n.ensures; start = c.method_entry-body.ensures }) c.enter.ensures c.expression.ensures)
    c.in_ok-r.was _ (c.from_number.ensures ∙ (c.first.ensures ∙ ap (λ (x : ℕ). get_or c.args.program.now.rows.now (x * 4 + 1) 0) c.method_row-at.ensures)) _
    c.is_fitting.ensures
    (c.if-not-is_fitting.false) _ c.is_within.ensures
    (c.if-not-is_within.false)

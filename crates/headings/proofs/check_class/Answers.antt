-- `headings::check_class` meets its contract. Assumes nothing.
use mathlib.Core.Path.{◌≡◌, refl, ◌∙◌}
use Rattle.std.proofs.Common.{arith, rules, Err}
use Rattle.headings.proofs.Passing.{class_index, class_late, super_index, class_kind, start_ready}
use Rattle.headings.proofs.Passing.{class_fields_here}
use Rattle.headings.proofs.Passing.{fields_ready, class_fields_refused, methods_ready}
use Rattle.headings.proofs.Passing.{class_answer, class_done}
use Rattle.headings.proofs.check_class.Goals as goal

pub first-kind-requires : goal.first-kind-requires
first-kind-requires c = omega (arith, (class_index c.requires).0)

pub second-over-requires : goal.second-over-requires
second-over-requires c = omega (arith, (class_index c.requires).0)

pub overflow_cast-line : goal.overflow_cast-line
overflow_cast-line c = let j = class_index c.requires in omega (arith, j.0, j.1)

pub overflow_add-line : goal.overflow_add-line
overflow_add-line c = let j = class_index c.requires in omega (arith, j.0, j.1)

pub returns-then-owner-over : goal.returns-then-owner-over
returns-then-owner-over c = λ w. (class_late w _ c.second-over.ensures c.if-owner-over.true, λ n e. absurd (cc))

pub bounds-tables-over : goal.bounds-tables-over
bounds-tables-over c =
    let h = super_index c.requires _ _ c.first-kind.ensures c.second-over.ensures c.if-owner-over.false in
    omega (arith, h)

pub returns-then-not-may_extend : goal.returns-then-not-may_extend
returns-then-not-may_extend c = λ w. (
  class_kind w _ _ c.first-kind.ensures c.second-over.ensures c.if-owner-over.false c.may_extend.result
      (rw c.from.ensures at c.may_extend.ensures) (search rules),
  λ n e. absurd (cc),
)

pub start_block-requires : goal.start_block-requires
start_block-requires c = start_ready c.requires _ _ c.first-kind.ensures c.second-over.ensures c.if-owner-over.false
    c.may_extend.result (rw c.from.ensures at c.may_extend.ensures)

pub overflow_add-r : goal.overflow_add-r
overflow_add-r c = let j = class_index c.requires in omega (arith, j.0, j.1)

pub count_rows-n-requires : goal.count_rows-n-requires
count_rows-n-requires c = class_fields_here c.requires _ _ c.first-kind.ensures c.second-over.ensures c.if-owner-over.false
    c.may_extend.result (rw c.from.ensures at c.may_extend.ensures)

pub overflow_mul-owner : goal.overflow_mul-owner
overflow_mul-owner c = let j = class_index c.requires in omega (arith, j.3)

pub check_fields-requires : goal.check_fields-requires
check_fields-requires c = fields_ready c.requires _ _ c.first-kind.ensures c.second-over.ensures c.if-owner-over.false
    c.may_extend.result (rw c.from.ensures at c.may_extend.ensures) (search rules) _ c.start_block.ensures _
    c.count_rows-n.ensures

pub returns-in_err-check_fields : goal.returns-in_err-check_fields
returns-in_err-check_fields c = λ w.
    let e : c.from_residual.result ≡ Err c.in_err-check_fields.field-0.0 = search rules in (
      e ∙ class_fields_refused w _ _ c.first-kind.ensures c.second-over.ensures c.if-owner-over.false c.may_extend.result
          (rw c.from.ensures at c.may_extend.ensures) (search rules) _ c.start_block.ensures _ c.count_rows-n.ensures _
          (λ v. (c.in_err-check_fields.ensures v).0),
      λ n o. absurd (cc),
    )

pub check_methods-requires : goal.check_methods-requires
check_methods-requires c = methods_ready c.requires _ _ c.first-kind.ensures c.second-over.ensures c.if-owner-over.false
    c.may_extend.result (rw c.from.ensures at c.may_extend.ensures) (search rules) _ c.start_block.ensures _
    c.count_rows-n.ensures c.check_fields.new.tables
    (λ v. let y = c.in_ok-check_fields.ensures v in (y.0, y.1 refl))

pub returns : goal.returns
returns c = λ w. (
  class_answer w _ _ c.first-kind.ensures c.second-over.ensures c.if-owner-over.false c.may_extend.result
      (rw c.from.ensures at c.may_extend.ensures) (search rules) _ c.start_block.ensures _ c.count_rows-n.ensures
      c.check_fields.new.tables (λ v. let y = c.in_ok-check_fields.ensures v in (y.0, y.1 refl))
      c.check_methods.result _ _ _ c.check_methods.ensures,
  class_done w _ _ c.first-kind.ensures c.second-over.ensures c.if-owner-over.false c.may_extend.result
      (rw c.from.ensures at c.may_extend.ensures) (search rules) _ c.start_block.ensures _ c.count_rows-n.ensures
      c.check_fields.new.tables (λ v. let y = c.in_ok-check_fields.ensures v in (y.0, y.1 refl))
      c.check_methods.result _ _ _ c.check_methods.ensures,
)

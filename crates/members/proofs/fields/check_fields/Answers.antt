-- `members::fields::check_fields` meets its contract. Assumes nothing.
use Rattle.std.proofs.Common.{arith, rules, ◌≡◌, ◌∙◌, Err}
use Rattle.members.proofs.FieldLaws.{fields_end, fielding_ready, fielding_refused, fielding_enter}
use Rattle.members.proofs.FieldLaws.{fielding_step, fielding_end, fielding_done}
use Rattle.members.proofs.fields.check_fields.Goals as goal

pub overflow_add-at-end : goal.overflow_add-at-end
overflow_add-at-end c = grind (arith, fields_end c.requires)

pub check_field-requires : goal.check_field-requires
check_field-requires c = fielding_ready c.requires (c.loop-at.invariant c.requires) c.loop-at-test.true

pub returns-in_err-check_field : goal.returns-in_err-check_field
returns-in_err-check_field c = λ w.
    let e : c.from_residual.result ≡ Err c.in_err-check_field.field-0.0 = search rules in (
      e ∙ fielding_refused w (c.loop-at.invariant w) c.loop-at-test.true _ c.in_err-check_field.ensures,
      λ o. absurd (cc),
    )

pub enter_field-requires : goal.enter_field-requires
enter_field-requires c = fielding_enter c.requires (c.loop-at.invariant c.requires) c.loop-at-test.true
    c.in_ok-check_field.ensures

pub loop-at-preserved : goal.loop-at-preserved
loop-at-preserved c = λ w. fielding_step w (c.loop-at.invariant w) c.loop-at-test.true c.in_ok-check_field.ensures
    c.enter_field.new.tables c.enter_field.ensures

pub returns : goal.returns
returns c = λ w. (
  fielding_end w (c.loop-at.invariant w) c.loop-at-test.false,
  λ e. fielding_done w (c.loop-at.invariant w) c.loop-at-test.false,
)

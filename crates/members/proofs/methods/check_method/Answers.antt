-- `members::methods::check_method` meets its contract. Assumes nothing.
use mathlib.Core.Path.{◌≡◌, ◌∙◌}
use Rattle.std.proofs.Common.{arith, rules, Err}
use Rattle.layout.proofs.Walks.{method_parameters, method_effects}
use Rattle.members.proofs.Heading.{method_here, method_counted, method_types, method_effects_ready}
use Rattle.members.proofs.Heading.{method_refused}
use Rattle.members.proofs.Heading.{method_parameters_refused, method_effects_refused, method_entered}
use Rattle.members.proofs.Heading.{number_ready, method_working}
use Rattle.members.proofs.Heading.{method_index}
use Rattle.members.proofs.methods.check_method.Goals as goal

pub count_rows-np-requires : goal.count_rows-np-requires
count_rows-np-requires c = method_parameters (method_here c.requires)

pub count_rows-nx-requires : goal.count_rows-nx-requires
count_rows-nx-requires c = method_effects (method_here c.requires) c.count_rows-np.result c.count_rows-np.ensures

pub check_method_line-requires : goal.check_method_line-requires
check_method_line-requires c = method_counted c.requires _ _ c.count_rows-np.ensures c.count_rows-nx.ensures

pub returns-in_err-check_method_line : goal.returns-in_err-check_method_line
returns-in_err-check_method_line c = λ w.
    let e : c.from_residual.result ≡ Err c.in_err-check_method_line.field-0.0 = search rules in (
      e ∙ method_refused w _ _ c.count_rows-np.ensures c.count_rows-nx.ensures _ c.in_err-check_method_line.ensures,
      λ o. absurd (cc),
    )

pub check_parameters-requires : goal.check_parameters-requires
check_parameters-requires c = method_types c.requires _ _ c.count_rows-np.ensures c.count_rows-nx.ensures

pub returns-in_err-check_parameters : goal.returns-in_err-check_parameters
returns-in_err-check_parameters c = λ w.
    let e : c.from_residual-in_err-check_parameters.result ≡ Err c.in_err-check_parameters.field-0.0 = search rules in (
      e ∙ method_parameters_refused w _ _ c.count_rows-np.ensures c.count_rows-nx.ensures
          c.in_ok-check_method_line.ensures _ c.in_err-check_parameters.ensures,
      λ o. absurd (cc),
    )

pub check_effects-requires : goal.check_effects-requires
check_effects-requires c = method_effects_ready c.requires _ _ c.count_rows-np.ensures c.count_rows-nx.ensures

pub returns-in_err-check_effects : goal.returns-in_err-check_effects
returns-in_err-check_effects c = λ w.
    let e : c.from_residual-in_err-check_effects.result ≡ Err c.in_err-check_effects.field-0.0 = search rules in (
      e ∙ method_effects_refused w _ _ c.count_rows-np.ensures c.count_rows-nx.ensures
          c.in_ok-check_method_line.ensures c.in_ok-check_parameters.ensures _ c.in_err-check_effects.ensures,
      λ o. absurd (cc),
    )

pub overflow_cast-tables : goal.overflow_cast-tables
overflow_cast-tables c = let j = method_index c.requires in omega (arith, j.2, j.3, j.4, j.5, c.second-name.ensures)

pub overflow_add-tables : goal.overflow_add-tables
overflow_add-tables c = let j = method_index c.requires in omega (arith, j.2, j.3, j.4, j.5, c.second-name.ensures)

pub enter_method-requires : goal.enter_method-requires
enter_method-requires c = number_ready c.requires _ _ c.count_rows-np.ensures c.count_rows-nx.ensures
    c.in_ok-check_method_line.ensures c.in_ok-check_parameters.ensures c.in_ok-check_effects.ensures

pub returns : goal.returns
returns c = λ w. (
  method_entered w _ _ c.count_rows-np.ensures c.count_rows-nx.ensures
      c.in_ok-check_method_line.ensures c.in_ok-check_parameters.ensures c.in_ok-check_effects.ensures,
  λ e. (
    method_working w c.second-name.result c.second-name.ensures,
    c.enter_method.ensures (number_ready w _ _ c.count_rows-np.ensures c.count_rows-nx.ensures
        c.in_ok-check_method_line.ensures c.in_ok-check_parameters.ensures c.in_ok-check_effects.ensures),
  ),
)

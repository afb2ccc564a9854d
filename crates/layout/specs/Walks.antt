-- What walking over a heading stands on.
use Rattle.std.specs.Prelude.{ℕ, ◌*◌, ◌≤◌, List, length}
use Rattle.language.specs.Limits.{of_check, numbers_a_row}
use Rattle.language.specs.Tree.{Declaration}
use Rattle.language.specs.Layout.{MethodAt}
use Rattle.language.specs.WellFormed.{MethodInForm}

-- Row r is the M line of a method in form.
pub record MethodStanding (R E : List ℕ) (r : ℕ) : Type 0 where
  pub method : Declaration
  pub at : MethodAt R E method r
  pub in_form : MethodInForm of_check method
  pub short : length R ≤ numbers_a_row * of_check.rows

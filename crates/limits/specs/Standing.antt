-- Methods and classes that stand in rows, and the row after the methods.
use Rattle.std.specs.Prelude.{◌≡◌, ℕ, ◌+◌, ◌*◌, ◌≤◌, List, length}
use Rattle.language.specs.Rows.{S_start}
use Rattle.language.specs.Tree.{Declaration, Class, methods_lines, classes_lines}
use Rattle.language.specs.Encoded.{RowAt}
use Rattle.language.specs.Layout.{EachMethod, EachClass, ClassEnd, MethodAt, ClassAt}
use Rattle.language.specs.WellFormed.{Each, MethodInForm, ClassInForm}
use Rattle.language.specs.Limits.{of_check, numbers_a_row}

-- Methods in form that stand in rows from `at` on, and classes; k is the first one's number.
pub record MethodsStand (R E : List ℕ) (k : ℕ) (ms : List Declaration) (at : ℕ) : Type 0 where
  pub methods : EachMethod (λ k m r. MethodAt R E m r) ms k at
  pub after : ClassEnd R (at + methods_lines ms)
  pub in_form : Each (MethodInForm of_check) ms
  pub short : length R ≤ numbers_a_row * of_check.rows

pub record ClassesStand (R E : List ℕ) (k : ℕ) (cs : List Class) (at : ℕ) : Type 0 where
  pub classes : EachClass (ClassAt R E) cs k at
  pub start : RowAt R (at + classes_lines cs) S_start 0 0
  pub in_form : Each (ClassInForm of_check) cs
  pub short : length R ≤ numbers_a_row * of_check.rows

-- Methods that stand in rows from `at` on, and classes.
pub record SomeMethodsStand (R E : List ℕ) (at : ℕ) : Type 0 where
  pub k : ℕ
  pub ms : List Declaration
  pub stand : MethodsStand R E k ms at

pub record SomeClassesStand (R E : List ℕ) (at : ℕ) : Type 0 where
  pub k : ℕ
  pub cs : List Class
  pub stand : ClassesStand R E k cs at

-- The row after the methods.
pub record MethodsPassed (R E : List ℕ) (at at' : ℕ) : Type 0 where
  pub each : (k : ℕ) (ms : List Declaration) → MethodsStand R E k ms at → at' ≡ at + methods_lines ms

-- What is known of rows after their check, and of their classes.
use Rattle.std.specs.Prelude.{◌≡◌, Bool, ◌&&◌, leb, ltb, List, ℕ, ◌+◌, ◌≤◌, length, Option, Some, None}
use Rattle.language.specs.Results.{Checked, accept, refuse}
use Rattle.language.specs.Tree.{Class, Program}
use Rattle.language.specs.Verdict.{check}
use Rattle.classes.specs.Subclasses.{Subclasses}
use Rattle.language.specs.Limits.{of_check, object_class}

-- What is known after a check: how many classes there are, or that the rows are refused.
abbrev pub classes_known : Checked Program → Option ℕ
classes_known (accept p) = Some (length p.classes)
classes_known (refuse number line) = None

-- The verdict on rows is known, and where they are accepted, the table tells which class stands below which.
pub record Knows (R A : List ℕ) (known : Option ℕ) : Type 0 where
  pub verdict : known ≡ classes_known (check R)
  pub long : of_check.classes + 1 ≤ length A
  pub tells : (p : Program) → check R ≡ accept p → Subclasses p.classes A

-- The same of some rows.
pub record Knowing (A : List ℕ) (known : Option ℕ) : Type 0 where
  pub rows : List ℕ
  pub knows : Knows rows A known

-- The table tells which class stands below which of some program with `classes` classes.
pub record Serves (A : List ℕ) (classes : ℕ) : Type 0 where
  pub program : List Class
  pub counted : length program ≡ classes
  pub table : Subclasses program A

-- A program with n classes declares class c.
abbrev pub declares : ℕ → ℕ → Bool
declares n c = ltb object_class c && leb c n

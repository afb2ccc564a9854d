-- The subclass test that reads the table of superclasses (language, ClassTables), and what a table is that answers it
-- for a list of classes.
use Rattle.std.specs.Prelude.{◌≡◌, Bool, true, cond, List, ℕ, ◌+◌, ◌≤◌, eqb, length, get_or}
use Rattle.language.specs.Tree.{Class}
use Rattle.language.specs.Effects.{member}
use Rattle.language.specs.Program.{world}
use Rattle.language.specs.Limits.{of_check}

-- Class d is Object or in the set of class k.
unfoldable pub is_below : List ℕ → ℕ → ℕ → Bool
is_below A k d = cond (eqb d 0) true (member (get_or A k 0) d)

-- There are at most 64 classes, and by the table any of them, or Object, stands below the same classes as in the program.
pub record Subclasses (P : List Class) (A : List ℕ) : Type 0 where
  pub few : length P ≤ of_check.classes
  pub long : length P + 1 ≤ length A
  pub below : (k d : ℕ) → k ≤ length P → is_below A k d ≡ (world P).below k d

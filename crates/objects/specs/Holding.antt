-- How rows and tables hold an accepted program, and how a store holds its objects.
use Rattle.std.specs.Prelude.{◌≡◌, false, cond, List, ℕ, ◌+◌, ◌-◌, ◌*◌, ◌≤◌, ◌<◌, eqb, length, get_or}
use Rattle.language.specs.Frames.{Frame}
use Rattle.language.specs.Tree.{Expr, Class}
use Rattle.language.specs.Program.{world}
use Rattle.language.specs.State.{Value as Meaning, null, truth, State}
use Rattle.language.specs.Store.{heap_of_numbers}
use Rattle.layout.specs.Held.{Held}
use Rattle.objects.specs.declared.Tally.{Tally}
use Rattle.language.specs.Limits.{bool_number, object_width, most_objects}

-- A type's first value, by the type's number.
abbrev pub first_value_of : ℕ → Meaning
first_value_of t = cond (eqb t bool_number) (truth false) null

-- A store holds `made` objects: their classes are declared, and their unused numbers are 0.
pub record Sound (P : List Class) (made : ℕ) (s : List ℕ) : Type 0 where
  pub stored : made * object_width ≤ length s
  pub few : made ≤ most_objects
  pub declared : (j : ℕ) → j < made → get_or s (j * object_width) 0 ≤ length P
  pub unused : (j i : ℕ) → j < made → length ((world P).fields (get_or s (j * object_width) 0)) ≤ i
      → i < object_width - 1
      → get_or s (j * object_width + 1 + i) 0 ≡ 0

-- Rows and tables hold an accepted program with classes P, and the store holds `made` of its objects.
pub record Holding (R E T A M s : List ℕ) (P : List Class) (made : ℕ) : Type 0 where
  pub F : List ℕ
  pub C : List ℕ
  pub start : Expr
  pub held : Held R E T A M F C (record { classes = P; start = start })
  pub sound : Sound P made s

-- The state that a store holds, with slots that are given, after `steps` steps.
abbrev pub view : List Class → List ℕ → Tally → Frame Meaning → ℕ → State
view P s n γ steps = record {
  frame = γ;
  heap = heap_of_numbers (world P) n.made s;
  steps = steps;
  changes = n.changes;
}

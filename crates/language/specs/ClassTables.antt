-- What the tables of a program's classes hold, for lookups in constant time. The heading pass fills them;
-- typing, translation and evaluation read them. A row is counted from 0.
-- Class k has the numbers from k · 576 on in the table of classes: by name the place of a field (0 none, else its
-- place from 1) and the number of a method (0 none, else its number from 1), then kind, superclass, root, how many
-- fields there are, and by place the row of each field's F line. The table of superclasses has for each class the set of
-- the classes that it is or stands below, as an effect is a set. What the tables hold of a method is in MethodTables.
use Rattle.std.specs.Prelude.{◌≡◌, ℕ, zero, suc, ◌+◌, ◌-◌, ◌*◌, ◌≤◌, ◌<◌, List, [], ◌∷◌, ◌++◌, length, take, get_or}
use Rattle.std.proofs.Math.Option.{Option, none, some}
use Rattle.language.specs.Lists.{nth, given, map_option}
use Rattle.language.specs.Tree.{kind_number, Field, Class, classes_lines}
use Rattle.language.specs.World.{Method, place}
use Rattle.language.specs.Effects.{no_effect, effect_of, join}
use Rattle.language.specs.Program.{class_at, world}

-- What a table holds for something that may not be there.
abbrev pub stored_place : Option ℕ → ℕ
stored_place none = 0
stored_place (some i) = suc i

-- Rows that follow one another, one for each field.
unfoldable pub rows_from : ℕ → List Field → List ℕ
rows_from r [] = []
rows_from r (f ∷ fs) = r ∷ rows_from (r + 1) fs

module _ (P : List Class) where
  -- The row of a class's C line.
  unfoldable pub class_row : ℕ → ℕ
  class_row k = classes_lines (take (k - 1) P)

  -- The rows of a class's fields in order, its superclass's first; there are fewer than n superclasses.
  unfoldable pub field_rows_at : ℕ → ℕ → List ℕ
  field_rows_at zero k = []
  field_rows_at (suc n) k = given (class_at P k) [] λ c.
      field_rows_at n c.super ++ rows_from (class_row k + 1) c.fields

  unfoldable pub field_rows : ℕ → List ℕ
  field_rows k = field_rows_at (suc k) k

  -- The number of the method that a lookup finds.
  unfoldable pub method_number : ℕ → ℕ → Option ℕ
  method_number k m = map_option (λ (M : Method). M.number) ((world P).method k m)

  -- The set of the classes that a class is or stands below; Object is in none.
  unfoldable pub above_at : ℕ → ℕ → ℕ
  above_at zero k = no_effect
  above_at (suc n) k = given (class_at P k) no_effect λ c. join (effect_of k) (above_at n c.super)

  unfoldable pub above : ℕ → ℕ
  above k = above_at (suc k) k

abbrev pub class_width : ℕ
class_width = 576

abbrev pub methods_from : ℕ
methods_from = 256

abbrev pub kind_place : ℕ
kind_place = 512

abbrev pub super_place : ℕ
super_place = 513

abbrev pub root_place : ℕ
root_place = 514

abbrev pub count_place : ℕ
count_place = 515

abbrev pub rows_place : ℕ
rows_place = 520

-- The tables of classes T and of superclasses A hold what is looked up in a list of classes; Object is class 0.
pub record ClassTables (P : List Class) (T A : List ℕ) : Type 0 where
  pub long : (length P + 1) * class_width ≤ length T
  pub long_above : length P + 1 ≤ length A
  pub places : (k f : ℕ) → k ≤ length P → f < 256
      → get_or T (k * class_width + f) 0 ≡ stored_place (place f ((world P).fields k))
  pub methods : (k m : ℕ) → k ≤ length P → m < 256
      → get_or T (k * class_width + methods_from + m) 0 ≡ stored_place (method_number P k m)
  pub kinds : (k : ℕ) (c : Class) → class_at P k ≡ some c
      → get_or T (k * class_width + kind_place) 0 ≡ kind_number c.kind
  pub supers : (k : ℕ) (c : Class) → class_at P k ≡ some c
      → get_or T (k * class_width + super_place) 0 ≡ c.super
  pub roots : (k : ℕ) → k ≤ length P → get_or T (k * class_width + root_place) 0 ≡ (world P).root k
  pub counts : (k : ℕ) → k ≤ length P → get_or T (k * class_width + count_place) 0 ≡ length ((world P).fields k)
  pub rows : (k i r : ℕ) → k ≤ length P → nth (field_rows P k) i ≡ some r
      → get_or T (k * class_width + rows_place + i) 0 ≡ r
  pub aboves : (k : ℕ) → k ≤ length P → get_or A k 0 ≡ above P k

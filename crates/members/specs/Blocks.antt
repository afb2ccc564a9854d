-- What the table of classes holds while the heading pass fills it: blocks of the classes before, and a block in the making.
use Rattle.std.specs.Prelude.{◌≡◌, ℕ, ◌+◌, ◌*◌, ◌≤◌, ◌<◌, List, length, get_or}
use Rattle.std.proofs.Math.Option.{Option, some}
use Rattle.language.specs.Lists.{nth}
use Rattle.language.specs.Tree.{kind_number, kind_of_number, Field, Class}
use Rattle.language.specs.World.{place}
use Rattle.language.specs.Program.{class_at, world}
use Rattle.language.specs.ClassTables.{stored_place, field_rows, method_number, class_width, methods_from}
use Rattle.language.specs.Limits.{of_check}
use Rattle.language.specs.ClassTables.{kind_place, super_place, root_place, count_place, rows_place}

-- The block at a base holds fields by name, numbers of methods by name, the count of fields and the fields' rows.
pub record Block (T : List ℕ) (base : ℕ) (fs : List Field) (rs : List ℕ) (methods : ℕ → Option ℕ) : Type 0
  where
    pub places : (f : ℕ) → f < 256 → get_or T (base + f) 0 ≡ stored_place (place f fs)
    pub entries : (m : ℕ) → m < 256 → get_or T (base + methods_from + m) 0 ≡ stored_place (methods m)
    pub count : get_or T (base + count_place) 0 ≡ length fs
    pub rows : (i r : ℕ) → nth rs i ≡ some r → get_or T (base + rows_place + i) 0 ≡ r
    pub long : length rs ≡ length fs
    pub few : length fs ≤ of_check.fields

-- The block of a class is filled.
pub record Filled (P : List Class) (T : List ℕ) (k : ℕ) : Type 0 where
  pub block : Block T (k * class_width) ((world P).fields k) (field_rows P k) (method_number P k)
  pub root : get_or T (k * class_width + root_place) 0 ≡ (world P).root k

-- Kinds and superclasses of all classes are in the table; the blocks of those before n are filled.
pub record Lookups (P : List Class) (n : ℕ) (T : List ℕ) : Type 0 where
  pub few : length P ≤ of_check.classes
  pub long : (length P + 1) * class_width ≤ length T
  pub object : get_or T kind_place 0 ≡ 0
  pub kinds : (k : ℕ) (c : Class) → class_at P k ≡ some c
      → get_or T (k * class_width + kind_place) 0 ≡ kind_number c.kind
  pub proper : (k : ℕ) (c : Class) → class_at P k ≡ some c → kind_of_number (kind_number c.kind) ≡ c.kind
  pub supers : (k : ℕ) (c : Class) → class_at P k ≡ some c
      → get_or T (k * class_width + super_place) 0 ≡ c.super
  pub earlier : (k : ℕ) (c : Class) → k < n → class_at P k ≡ some c → c.super < k
  pub blocks : (k : ℕ) → k < n → Filled P T k

-- The block of class k is in the making.
pub record Working (P : List Class) (k : ℕ) (T : List ℕ) (fs : List Field) (rs : List ℕ)
    (methods : ℕ → Option ℕ) : Type 0 where
  pub lookups : Lookups P k T
  pub within : k ≤ length P
  pub block : Block T (k * class_width) fs rs methods
  pub root : get_or T (k * class_width + root_place) 0 ≡ (world P).root k

-- What each function has to be given, and what it leaves. The buffer is a list of numbers; what stands past
-- its end is counted and not written.
use Rattle.std.specs.Prelude.{◌≡◌, ℕ, ◌+◌, ◌*◌, ◌≤◌, ◌<◌, List, length, get_or}
use Rattle.std.proofs.lemmas.List.Edits.{sets}
use Rattle.language.specs.Rows.{Letter, F_field}
use Rattle.language.specs.Tree.{DeclaredType, Expr, Field, Class, type_number}
use Rattle.language.specs.Program.{world}
use Rattle.language.specs.Encoded.{TypesAt, RowAt, LinesAt}
use Rattle.language.specs.Layout.{FieldsAt}
use Rattle.emitters.specs.Lines.{most_numbers, type_lines, field_lines, copy_lines, renew_lines}
use Rattle.emitters.specs.Lines.{change_lines, head_length}
use Rattle.language.specs.Limits.{of_translator}
use Rattle.layout.specs.Held.{Held}

-- The rows and tables that every translation goes by: they hold an accepted program with classes P, and each
-- row has a lookup class.
pub record Lent (P : List Class) (E R T M C : List ℕ) : Type 0 where
  pub start : Expr
  pub A : List ℕ
  pub F : List ℕ
  pub held : Held R E T A M F C (record { classes = P; start = start })
  pub beside : length R ≤ length C * 4

-- The table has the rows of fields from an entry on.
abbrev pub FieldRows : List ℕ → List ℕ → List Field → ℕ → Type 0
FieldRows R T fs i = LinesAt (λ (f : Field) (i : ℕ).
    (i < length T) × RowAt R (get_or T i 0) F_field (type_number f.type) f.name) fs i

-- Numbers written from a place on.
pub record Written (xs O O' : List ℕ) (place place' : ℕ) : Type 0 where
  pub content : O' ≡ sets O place xs
  pub ended : place' ≡ place + length xs

-- Rows of a letter from one on hold `count` types.
pub record SomeTypes (R : List ℕ) (at count : ℕ) : Type 0 where
  pub letter : Letter
  pub ts : List DeclaredType
  pub rows : TypesAt letter R ts at
  pub counted : length ts ≡ count

pub record TypesWritten (R : List ℕ) (at count letter : ℕ) (O O' : List ℕ) (place place' : ℕ) : Type 0 where
  pub each : (l : Letter) (ts : List DeclaredType) → TypesAt l R ts at → length ts ≡ count
      → Written (type_lines letter ts) O O' place place'

-- So many fields have their rows in the table, from an entry on.
pub record SomeFields (R T : List ℕ) (from count : ℕ) : Type 0 where
  pub fs : List Field
  pub rows : FieldRows R T fs from
  pub counted : length fs ≡ count

-- A declared class, whose fields are copied from `place` on.
pub record SomeCopies (R T : List ℕ) (place class : ℕ) : Type 0 where
  pub P : List Class
  pub E : List ℕ
  pub M : List ℕ
  pub C : List ℕ
  pub lent : Lent P E R T M C
  pub declared : class ≤ length P
  pub fits : place + 16 * length ((world P).fields class) ≤ most_numbers

pub record CopiesWritten (R T : List ℕ) (from count s : ℕ) (O O' : List ℕ) (place place' : ℕ) : Type 0 where
  pub each : (fs : List Field) → FieldRows R T fs from → length fs ≡ count
      → Written (copy_lines s fs) O O' place place'

pub record RenewWritten (R T : List ℕ) (n d class : ℕ) (O O' : List ℕ) (place place' : ℕ) : Type 0 where
  pub each : (w : SomeCopies R T (place + 56) class)
      → Written (renew_lines n d class ((world w.P).fields class)) O O' place place'

-- R to a declared class.
pub record SomeChange (R T : List ℕ) (place s d : ℕ) : Type 0 where
  pub P : List Class
  pub E : List ℕ
  pub M : List ℕ
  pub C : List ℕ
  pub lent : Lent P E R T M C
  pub declared : d ≤ length P
  pub fits : place + head_length s + 60 + 16 * length ((world P).fields ((world P).root d)) ≤ most_numbers

pub record ChangeWritten (R T : List ℕ) (s n d : ℕ) (O O' : List ℕ) (place place' : ℕ) : Type 0 where
  pub each : (w : SomeChange R T place s d)
      → Written (change_lines s n d ((world w.P).root d) ((world w.P).fields ((world w.P).root d)))
      O O' place place'

-- Source slots of a block's locals added to those in scope.
pub record Extended (S S' : List ℕ) (vars next count : ℕ) : Type 0 where
  pub kept : (k : ℕ) → k < vars → get_or S' k 0 ≡ get_or S k 0
  pub added : (i : ℕ) → i < count → get_or S' (vars + i) 0 ≡ next + i
  pub wide : length S' ≡ of_translator.slots

-- Rows hold `count` fields, and what is written for these.
pub record SomeFieldLines (R : List ℕ) (at count : ℕ) : Type 0 where
  pub fs : List Field
  pub rows : FieldsAt R fs at
  pub counted : length fs ≡ count

pub record FieldsWritten (R : List ℕ) (at count : ℕ) (O O' : List ℕ) (place place' : ℕ) : Type 0 where
  pub each : (fs : List Field) → FieldsAt R fs at → length fs ≡ count
      → Written (field_lines fs) O O' place place'

-- Where the parts of a program stand in rows and in the table of ends. Rows are counted from 0. The form pass
-- establishes it; headings, bodies, translation and evaluation read rows only through it.
use Rattle.std.specs.Prelude.{◌≡◌, ℕ, suc, ◌+◌, ◌*◌, ◌≤◌, ◌<◌, ◌⊎◌, List, [], ◌∷◌, length, get_or}
use Rattle.language.specs.Limits.{of_check}
use Rattle.language.specs.Rows.{code, C_class, F_field, M_method, P_parameter, X_effect, S_start}
use Rattle.language.specs.Tree.{type_number, kind_number, size, Field, Declaration}
use Rattle.language.specs.Tree.{method_lines}
use Rattle.language.specs.Tree.{Class, class_lines, classes_lines, Program}
use Rattle.language.specs.Program.{world}
use Rattle.language.specs.Environment.{method_environment, start_environment}
use Rattle.language.specs.LookupClasses.{LooksUp}
use Rattle.language.specs.Encoded.{RowAt, LinesAt, TypesAt, Encoded}
use Rattle.language.specs.WellFormed.{ProgramInForm}

-- Something of each method of a class, and of each class: its number, its tree, its row.
module _ (Q : ℕ → Declaration → ℕ → Type 0) where
  unfoldable pub EachMethod : List Declaration → ℕ → ℕ → Type 0
  EachMethod [] k r = Unit {0}
  EachMethod (m ∷ ms) k r = Q k m r × EachMethod ms k (r + method_lines m)

module _ (Q : ℕ → Class → ℕ → Type 0) where
  unfoldable pub EachClass : List Class → ℕ → ℕ → Type 0
  EachClass [] k r = Unit {0}
  EachClass (c ∷ cs) k r = Q k c r × EachClass cs (suc k) (r + class_lines c)

-- X lines and F lines.
abbrev pub EffectsAt : List ℕ → List ℕ → ℕ → Type 0
EffectsAt R cs r = LinesAt (λ (c i : ℕ). RowAt R i X_effect c 0) cs r

abbrev pub FieldsAt : List ℕ → List Field → ℕ → Type 0
FieldsAt R fs r = LinesAt (λ (f : Field) (i : ℕ). RowAt R i F_field (type_number f.type) f.name) fs r

-- n rows from one on have the letter of a code, and the next row has another.
pub record Run (R : List ℕ) (letter from n : ℕ) : Type 0 where
  pub each : (i : ℕ) → i < n → get_or R ((from + i) * 4) 0 ≡ letter
  pub inside : (from + n) * 4 + 3 < length R
  pub other : get_or R ((from + n) * 4) 0 ≡ letter → ⊥

-- Row r is a C line or the S line: a class has ended there.
pub record ClassEnd (R : List ℕ) (r : ℕ) : Type 0 where
  pub within : r * 4 + 3 < length R
  pub letter : (get_or R (r * 4) 0 ≡ code C_class) ⊎ (get_or R (r * 4) 0 ≡ code S_start)

-- The row of a method's body, and of a class's first method.
abbrev pub effects_row : ℕ → Declaration → ℕ
effects_row r m = r + 1 + length m.parameters

abbrev pub body_row : ℕ → Declaration → ℕ
body_row r m = effects_row r m + length m.effects

abbrev pub methods_from_row : ℕ → Class → ℕ
methods_from_row r c = r + 1 + length c.fields

-- A method whose M line is row r, and a class whose C line is row r.
pub record MethodAt (R E : List ℕ) (m : Declaration) (r : ℕ) : Type 0 where
  pub line : RowAt R r M_method (type_number m.result) m.name
  pub parameters : TypesAt P_parameter R m.parameters (r + 1)
  pub effects : EffectsAt R m.effects (effects_row r m)
  pub body : Encoded R E m.body (body_row r m)

pub record ClassAt (R E : List ℕ) (k : ℕ) (c : Class) (r : ℕ) : Type 0 where
  pub line : RowAt R r C_class (kind_number c.kind) c.super
  pub fields : FieldsAt R c.fields (r + 1)
  pub methods : EachMethod (λ k m r. MethodAt R E m r) c.methods k (methods_from_row r c)

-- The row of the S line; the start block is on the next.
abbrev pub start_row : Program → ℕ
start_row p = classes_lines p.classes

-- A program that takes all rows, within the limits of form.
pub record ProgramAt (R E : List ℕ) (p : Program) : Type 0 where
  pub all : length R ≡ 4 * (start_row p + 1 + size p.start)
  pub short : length R ≤ 240000
  pub in_ends : start_row p + 1 + size p.start ≤ length E
  pub classes : EachClass (ClassAt R E) p.classes 1 0
  pub start_line : RowAt R (start_row p) S_start 0 0
  pub start : Encoded R E p.start (start_row p + 1)
  pub in_form : ProgramInForm of_check p

-- The table of lookup classes has those of every body.
pub record LooksUpProgram (C : List ℕ) (p : Program) : Type 0 where
  pub methods : EachClass (λ k c r.
      EachMethod (λ k m r. LooksUp (world p.classes) C m.body (method_environment k m.parameters)
      (body_row r m))
      c.methods k (methods_from_row r c)) p.classes 1 0
  pub start : LooksUp (world p.classes) C p.start start_environment (start_row p + 1)

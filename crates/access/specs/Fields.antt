-- Fields sought by the tables, and what G and U answer, note and need.
use Rattle.std.specs.Prelude.{cond, ◌≡◌, List, ℕ, ◌+◌, ◌*◌, ◌≤◌, ◌<◌, eqb, length, get_or, set, Option, Some, None}
use Rattle.std.proofs.Math.Option.{Option as Perhaps, none, some}
use Rattle.language.specs.Tree.{DeclaredType, type_number}
use Rattle.language.specs.declared.«Type».{«Type» as WrittenType}
use Rattle.language.specs.Effects.{join}
use Rattle.language.specs.Limits.{bool_number, member_refusal, of_check, type_refusal}
use Rattle.language.specs.ClassTables.{class_width, root_place}
use Rattle.types.specs.declared.Typing.{Typing}
use Rattle.types.specs.declared.Typing.TheVariants.{Bool as Bool_case, Class, Null}
use Rattle.types.specs.declared.Typed.{Typed as TypedCase}
use Rattle.types.specs.Answers.{Answer, answer, case_of_number, refused}
use Rattle.types.specs.Tables.{is_fitting, CaseIn, applied, root_in, In_row}

-- What a lookup of a field finds.
abbrev pub Sought : Type 0
Sought = Option WrittenType

abbrev pub sought_of : Perhaps DeclaredType → Sought
sought_of none = None
sought_of (some t) = Some (record { number = type_number t })

-- The type of a field, by the tables.
abbrev pub field_place : List ℕ → ℕ → ℕ → ℕ
field_place T c f = get_or T (c * class_width + f) 0

abbrev pub field_row : List ℕ → ℕ → ℕ → ℕ
field_row T c f = get_or T (c * class_width + (519 + field_place T c f)) 0

unfoldable pub field_in : List ℕ → List ℕ → ℕ → ℕ → Sought
field_in R T c f = cond (eqb (field_place T c f) 0) None
    (Some (record { number = get_or R (field_row T c f * 4 + 1) 0 }))

pub record PreField (R T : List ℕ) (c f : ℕ) : Type 0 where
  pub inside : (c + 1) * class_width ≤ length T
  pub name : f < 256
  pub found : (field_place T c f ≡ 0 → ⊥) → (field_place T c f ≤ 17) × (field_row T c f * 4 + 3 < length R)

-- What is no class.
abbrev pub NoClass : Typing → Type 0
NoClass Bool_case = Unit {0}
NoClass (Class c) = ⊥
NoClass Null = Unit {0}

-- G: the answer, and the table of lookup classes after it.
unfoldable pub found_answer : ℕ → ℕ → Sought → Answer
found_answer at φ None = refused member_refusal at
found_answer at φ (Some u) = answer (case_of_number u.number) φ

unfoldable pub got : List ℕ → List ℕ → ℕ → Typing → ℕ → Answer
got R T at Bool_case φ = refused type_refusal at
got R T at (Class c) φ = found_answer at φ (field_in R T c (get_or R (at * 4 + 1) 0))
got R T at Null φ = refused type_refusal at

unfoldable pub noted : List ℕ → ℕ → ℕ → Sought → List ℕ
noted C at c None = C
noted C at c (Some u) = set C at c

unfoldable pub got_classes : List ℕ → List ℕ → List ℕ → ℕ → Typing → List ℕ
got_classes R T C at Bool_case = C
got_classes R T C at (Class c) = noted C at c (field_in R T c (get_or R (at * 4 + 1) 0))
got_classes R T C at Null = C

pub record PreGet (R T : List ℕ) (at : ℕ) (t : Typing) : Type 0 where
  pub row : In_row R at
  pub field : (c : ℕ) → t ≡ Class c → PreField R T c (get_or R (at * 4 + 1) 0) × (c ≤ of_check.classes)

-- U: the answer, and the table of lookup classes after it, by the field found in class k.
unfoldable pub put_answer : List ℕ → ℕ → TypedCase → TypedCase → Sought → Answer
put_answer A at a b None = refused member_refusal at
put_answer A at a b (Some u) =
    cond (is_fitting A b.typing u.number) (answer b.typing (join a.effect b.effect))
    (refused type_refusal at)

unfoldable pub put_noted : List ℕ → List ℕ → ℕ → ℕ → TypedCase → Sought → List ℕ
put_noted A C at k b None = C
put_noted A C at k b (Some u) = cond (is_fitting A b.typing u.number) (set C at k) C

unfoldable pub put : List ℕ → List ℕ → List ℕ → ℕ → Typing → TypedCase → TypedCase → Answer
put R T A at Bool_case a b = refused type_refusal at
put R T A at (Class c) a b =
    put_answer A at a b (field_in R T (applied T b.effect c) (get_or R (at * 4 + 1) 0))
put R T A at Null a b = refused type_refusal at

unfoldable pub put_classes : List ℕ → List ℕ → List ℕ → List ℕ → ℕ → Typing → TypedCase → List ℕ
put_classes R T A C at Bool_case b = C
put_classes R T A C at (Class c) b =
    put_noted A C at (applied T b.effect c) b
    (field_in R T (applied T b.effect c) (get_or R (at * 4 + 1) 0))
put_classes R T A C at Null b = C

-- A class before and after an effect is within the tables.
pub record InTables (T : List ℕ) (φ c : ℕ) : Type 0 where
  pub inside : c * class_width + root_place < length T
  pub root : root_in T c ≤ of_check.classes
  pub low : applied T φ c ≤ of_check.classes
  pub after : (applied T φ c + 1) * class_width ≤ length T

pub record PrePut (R T A : List ℕ) (at : ℕ) (t : Typing) (b : TypedCase) : Type 0 where
  pub row : In_row R at
  pub value : CaseIn (length A) b.typing
  pub object : (c : ℕ) → t ≡ Class c
      → InTables T b.effect c × PreField R T (applied T b.effect c) (get_or R (at * 4 + 1) 0)
  pub declared : (c n : ℕ) → t ≡ Class c
      → field_in R T (applied T b.effect c) (get_or R (at * 4 + 1) 0) ≡ Some (record { number = n })
      → (n ≡ bool_number → ⊥) → n ≤ of_check.classes

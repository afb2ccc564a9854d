-- What each part of the check is called on, and what it leaves: rows R, ends E, class tables T A, method table M,
-- effects F, slots S, lookup classes C.
use Rattle.std.specs.Prelude.{◌≡◌, ◌⊎◌, List, Result, ℕ, ◌+◌, ◌*◌, ◌%◌, ◌≤◌, length}
use Rattle.language.specs.Limits.{of_check}
use Rattle.language.specs.Results.{accept}
use Rattle.language.specs.Rows.{rows_of}
use Rattle.language.specs.Tree.{Program}
use Rattle.language.specs.Form.{form}
use Rattle.language.specs.Verdict.{check}
use Rattle.language.specs.ClassTables.{class_width}
use Rattle.language.specs.MethodTables.{method_width}
use Rattle.language.specs.Layout.{ProgramAt, start_row}
use Rattle.layout.specs.Held.{Held}
use Rattle.classes.specs.Subclasses.{Subclasses}
use Rattle.members.specs.Numbers.{numbers_a_method, most_methods}
use Rattle.bodies.specs.Whole.{Spacious}
use Rattle.language.specs.declared.Refusal.{Refusal}
use Rattle.passes.specs.Answers.{checked_case}

-- No size needs more slots than 256 for each of 128 levels of nesting, and as many again.
abbrev pub most_slots : ℕ
most_slots = 33024

-- Whole rows, and tables that are long enough for them: an end for each row that may be accepted, an entry
-- for each method.
pub record Room (R E M : List ℕ) : Type 0 where
  pub whole : length R % 4 ≡ 0
  pub room : (length R ≤ 4 * length E) ⊎ (of_check.rows ≤ length E)
  pub methods : (length R * method_width ≤ numbers_a_method * length M)
      ⊎ (most_methods * method_width ≤ length M)

-- What the check alone reads: an effect for each method, and slots for bodies.
pub record BodyRoom (R F S : List ℕ) (width : ℕ) : Type 0 where
  pub effects : (length R ≤ numbers_a_method * length F) ⊎ (most_methods ≤ length F)
  pub depth : ℕ
  pub space : Spacious R S width depth

-- Class tables with a block and an entry for each of `classes` classes and for Object.
pub record ClassRoom (T A : List ℕ) (classes : ℕ) : Type 0 where
  pub blocks : (classes + 1) * class_width ≤ length T
  pub entries : classes + 1 ≤ length A

-- After form: the program in the rows has `classes` classes, and its S line is row `start`.
pub record Stands (R E : List ℕ) (classes start : ℕ) : Type 0 where
  pub program : Program
  pub formed : form of_check (rows_of R) ≡ accept program
  pub here : ProgramAt R E program
  pub counted : length program.classes ≡ classes
  pub started : start_row program ≡ start

-- The answer is that of the check; rows and tables hold the program that it accepts.
pub record Checks (R E T A M C : List ℕ) (r : Result ℕ Refusal) : Type 0 where
  pub answer : r ≡ checked_case (check R)
  pub holds : (p : Program) → check R ≡ accept p → (F : List ℕ) × Held R E T A M F C p

-- The same where the table of superclasses alone is kept: it tells which class stands below which.
pub record ChecksAbove (R A : List ℕ) (r : Result ℕ Refusal) : Type 0 where
  pub answer : r ≡ checked_case (check R)
  pub tells : (p : Program) → check R ≡ accept p → Subclasses p.classes A

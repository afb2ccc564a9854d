-- The translator's own refusals of accepted rows: its limits and reserved names. What each walk over the
-- classes has to be given, and what it answers.
use Rattle.std.specs.Prelude.{◌≡◌, ℕ, ◌+◌, ◌≤◌, cond, List, ltb, length, Result, Ok, Err}
use Rattle.language.specs.Limits.{of_check, of_translator}
use Rattle.language.specs.Results.{accept, Pass, passed}
use Rattle.language.specs.Refusals.{result_of}
use Rattle.language.specs.declared.Refusal.{Refusal}
use Rattle.language.specs.Tree.{Field, Class, Program}
use Rattle.language.specs.Headings.{check_classes}
use Rattle.language.specs.Verdict.{check}
use Rattle.language.specs.Translation.{fields_free, names_free, within_limits}
use Rattle.language.specs.ClassTables.{ClassTables}
use Rattle.language.specs.Layout.{FieldsAt}
use Rattle.layout.specs.Held.{Held}
use Rattle.limits.specs.Standing.{ClassesStand}

-- What the code answers of a check that only passes or refuses.
abbrev pub verdict : Pass → Result (Unit {0}) Refusal
verdict p = result_of (λ u. u) p

-- Classes that the check accepts, with the tables of classes.
pub record ClassesCounted (P : List Class) (R E T : List ℕ) (k : ℕ) (cs : List Class) (at : ℕ) : Type 0 where
  pub stand : ClassesStand R E k cs at
  pub accepted : check_classes of_check P k (at + 1) cs ≡ passed
  pub numbered : k + length cs ≤ length P + 1
  pub A : List ℕ
  pub tables : ClassTables P T A

pub record SomeCounted (R E T : List ℕ) (at : ℕ) : Type 0 where
  pub P : List Class
  pub k : ℕ
  pub cs : List Class
  pub counted : ClassesCounted P R E T k cs at

-- Of the first field too many.
pub record FieldsLimited (R E T : List ℕ) (at : ℕ) (r : Result (Unit {0}) Refusal) : Type 0 where
  pub each : (P : List Class) (k : ℕ) (cs : List Class) → ClassesCounted P R E T k cs at
      → verdict (check_classes of_translator P k (at + 1) cs) ≡ r

-- Of the first field with a reserved name: of `count` fields, and of the classes.
pub record FieldsFree (R : List ℕ) (at count : ℕ) (r : Result (Unit {0}) Refusal) : Type 0 where
  pub each : (fs : List Field) → FieldsAt R fs at → length fs ≡ count
      → verdict (fields_free (at + 1) fs) ≡ r

pub record NamesFree (R E : List ℕ) (at : ℕ) (r : Result (Unit {0}) Refusal) : Type 0 where
  pub each : (k : ℕ) (cs : List Class) → ClassesStand R E k cs at → verdict (names_free (at + 1) cs) ≡ r

-- Of two answers the refusal on the earlier line.
abbrev pub first_refused : {A : Type 0} → Result A Refusal → Result (Unit {0}) Refusal
    → Result (Unit {0}) Refusal
first_refused (Ok a) r = r
first_refused (Err n) (Ok u) = Err n
first_refused (Err n) (Err m) = cond (ltb m.line n.line) (Err m) (Err n)

-- Rows that the check accepts, with the tables of ends and of classes.
pub record SomeChecked (R E T : List ℕ) : Type 0 where
  pub p : Program
  pub A : List ℕ
  pub M : List ℕ
  pub F : List ℕ
  pub C : List ℕ
  pub accepted : check R ≡ accept p
  pub held : Held R E T A M F C p

pub record Limited (R E T : List ℕ) (r : Result (Unit {0}) Refusal) : Type 0 where
  pub each : (w : SomeChecked R E T) → r ≡ verdict (within_limits R w.p)

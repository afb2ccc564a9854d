-- What rows and tables hold of a program: rows R, ends E, class tables T A, method tables M F, lookup classes C.
use Rattle.std.specs.Prelude.{◌≡◌, ℕ, List, length}
use Rattle.language.specs.Limits.{of_check}
use Rattle.language.specs.Results.{passed}
use Rattle.language.specs.Tree.{Program}
use Rattle.language.specs.Headings.{headings}
use Rattle.language.specs.Typing.{bodies}
use Rattle.language.specs.ClassTables.{ClassTables}
use Rattle.language.specs.MethodTables.{MethodTables}
use Rattle.language.specs.Layout.{ProgramAt, LooksUpProgram}

-- After the heading pass: where the parts of p stand, that its headings are accepted, its `count` classes and its methods.
pub record Headed (R E T A M F : List ℕ) (p : Program) (count : ℕ) : Type 0 where
  pub here : ProgramAt R E p
  pub counted : length p.classes ≡ count
  pub passes : headings of_check p.classes ≡ passed
  pub classes : ClassTables p.classes T A
  pub methods : MethodTables p.classes M F

-- After the body pass, of a program that is accepted: besides, that its bodies are typed, and its lookup classes.
pub record Held (R E T A M F C : List ℕ) (p : Program) : Type 0 where
  pub headed : Headed R E T A M F p (length p.classes)
  pub typed : bodies p ≡ passed
  pub looks : LooksUpProgram C p

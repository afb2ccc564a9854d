-- The translator's answer: the plain rows of a program, and of rows that the check accepts.
use Rattle.std.specs.Prelude.{◌≡◌, ℕ, ◌*◌, ◌≤◌, List, length, Result}
use Rattle.language.specs.Results.{accept}
use Rattle.language.specs.Tree.{Program}
use Rattle.language.specs.Verdict.{check}
use Rattle.language.specs.Filling.{answer, buffer}
use Rattle.language.specs.declared.Refusal.{Refusal}
use Rattle.layout.specs.Held.{Held}
use Rattle.plain.specs.Tasks.{ProgramTask}
use Rattle.plain.specs.Numbers.{program_numbers}

-- The plain rows as an answer and in a buffer.
pub record PlainWritten (R T M C O O' : List ℕ) (r : Result ℕ Refusal) : Type 0 where
  pub each : (p : Program) (E : List ℕ) → ProgramTask p E R T M C
      → (r ≡ answer 4 (accept (program_numbers p)) (length O)) × (O' ≡ buffer (accept (program_numbers p)) O)

-- All that translating accepted rows goes by: the tables of methods and of lookup classes too.
pub record SomeAccepted (R E T M C : List ℕ) : Type 0 where
  pub p : Program
  pub A : List ℕ
  pub F : List ℕ
  pub accepted : check R ≡ accept p
  pub held : Held R E T A M F C p
  pub beside : length R ≤ length C * 4

-- The verdict on rows (document 01, "Refusals and stops"): length, form, headings, bodies.
use Rattle.std.specs.Prelude.{ℕ, ◌%◌, Bool, List, length, eqb}
use Rattle.language.specs.Limits.{of_check, numbers_a_row, line_refusal, no_line}
use Rattle.language.specs.Results.{Checked, accept, refuse, bind_checked, require}
use Rattle.language.specs.Rows.{rows_of}
use Rattle.language.specs.Tree.{Program}
use Rattle.language.specs.Form.{form}
use Rattle.language.specs.Headings.{headings}
use Rattle.language.specs.Typing.{bodies}

-- What the numbers of whole rows say; a length that is not a multiple of 4 is refused first, on no line.
unfoldable pub whole_rows : {A : Type 0} → List ℕ → (Bool → Checked A) → Checked A
whole_rows ns k = require (eqb (length ns % numbers_a_row) 0) line_refusal no_line k

-- The three passes: the program that the rows hold, or the first refusal.
unfoldable pub three_passes : List ℕ → Checked Program
three_passes ns =
    bind_checked (form of_check (rows_of ns)) λ p.
    bind_checked (headings of_check p.classes) λ _.
    bind_checked (bodies p) λ _.
    accept p

unfoldable pub check : List ℕ → Checked Program
check ns = whole_rows ns λ _. three_passes ns

pub data Verdict : Type 0 where
  accepted : Verdict
  refused : ℕ → ℕ → Verdict

abbrev pub verdict_of : {A : Type 0} → Checked A → Verdict
verdict_of (accept a) = accepted
verdict_of (refuse n l) = refused n l

unfoldable pub verdict : List ℕ → Verdict
verdict ns = verdict_of (check ns)

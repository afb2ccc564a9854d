-- The answer of the check as the code gives it: how many classes there are, or a refusal.
use Rattle.std.specs.Prelude.{ℕ, Result, length}
use Rattle.language.specs.Results.{Checked}
use Rattle.language.specs.Refusals.{result_of}
use Rattle.language.specs.declared.Refusal.{Refusal}
use Rattle.language.specs.Tree.{Program}

abbrev pub checked_case : Checked Program → Result ℕ Refusal
checked_case = result_of (λ p. length p.classes)

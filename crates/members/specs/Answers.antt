-- The answer of the heading pass as the code gives it: how many methods were entered where all is well, or a refusal.
use Rattle.std.specs.Prelude.{ℕ, Result}
use Rattle.language.specs.Results.{Pass}
use Rattle.language.specs.Refusals.{result_of}
use Rattle.language.specs.declared.Refusal.{Refusal}

abbrev pub headed : ℕ → Pass → Result ℕ Refusal
headed methods = result_of (λ _. methods)

-- What is printed of an answer as the code holds it: an object's number counts from 1, a stop is its number.
use Rattle.std.specs.Prelude.{true, false, List, [], ◌∷◌, ◌++◌, ℕ, Result, Ok, Err}
use Rattle.objects.specs.declared.Value.{Value}
use Rattle.objects.specs.declared.Value.TheVariants.{Null, Truth, Object}
use Rattle.machine.specs.declared.End.{End}
use Rattle.machine.specs.declared.End.TheVariants.{Gave, Raised, Stopped}
use Rattle.machine.specs.declared.Run.{Run}
use Rattle.machine.specs.Runs.{stop_told}
use Rattle.language.specs.declared.Refusal.{Refusal}
use Rattle.language.specs.Printed.{number_text, counts_text, refusal_text}
use Rattle.language.specs.Rows.{code, T_true, L_false, N_null}

abbrev pub value_text : Value → List ℕ
value_text Null = code N_null ∷ []
value_text (Truth true) = code T_true ∷ []
value_text (Truth false) = code L_false ∷ []
value_text (Object j) = 79 ∷ number_text j

abbrev pub end_text : End → List ℕ
end_text (Gave v) = value_text v
end_text (Raised n) = 69 ∷ number_text n
end_text (Stopped s) = 33 ∷ number_text (stop_told s)

abbrev pub ran_text : Run → List ℕ
ran_text r = end_text r.outcome ++ counts_text r.steps r.objects r.changes

abbrev pub answer_text : Result Run Refusal → List ℕ
answer_text (Ok r) = ran_text r
answer_text (Err r) = refusal_text r.number r.line

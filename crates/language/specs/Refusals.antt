-- A refusal in the code (document 01, "Refusals and stops"): its number and its line.
use Rattle.std.specs.Prelude.{ℕ, Result, Ok, Err}
use Rattle.language.specs.Results.{Checked, accept, refuse}
use Rattle.language.specs.declared.Refusal.{Refusal}

abbrev pub refusal : ℕ → ℕ → Refusal
refusal number line = record { number = number; line = line }

-- What the code answers where a check is defined to give this: f of what is accepted, or the refusal.
abbrev pub result_of : {A B : Type 0} → (A → B) → Checked A → Result B Refusal
result_of f (accept a) = Ok (f a)
result_of f (refuse number line) = Err (refusal number line)

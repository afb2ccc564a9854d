-- The answer of a run as the code gives it.
use Rattle.std.specs.Prelude.{◌≡◌, List, ℕ, Result, Ok, Err}
use Rattle.language.specs.Store.{Answer, refused, ran, run_of}
use Rattle.language.specs.Refusals.{refusal}
use Rattle.language.specs.declared.Refusal.{Refusal}
use Rattle.machine.specs.Runs.{end_told}
use Rattle.machine.specs.declared.Run.{Run}

-- A refusal, or the end told, with steps, objects made and changes of class.
abbrev pub answer_told : Answer → Result Run Refusal
answer_told (refused number line) = Err (refusal number line)
answer_told (ran o steps objects changes) =
    Ok (record { outcome = end_told o; steps = steps; objects = objects; changes = changes })

-- The answer and the store afterwards are those of the run of the rows R under the fuel over the store s.
pub record Answers (R : List ℕ) (fuel : ℕ) (s s' : List ℕ) (r : Result Run Refusal) : Type 0 where
  pub answer : r ≡ answer_told (run_of R fuel s).answer
  pub store : s' ≡ (run_of R fuel s).store

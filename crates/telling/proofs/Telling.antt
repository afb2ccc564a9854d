-- What a run tells of its value and counts, where it was not refused and where it was. Assumes nothing.
use mathlib.Core.Path.{◌≡◌, refl}
use Rattle.std.specs.Prelude.{ℕ, Result, Ok, Err}
use Rattle.language.specs.Refusals.{refusal}
use Rattle.language.specs.declared.Refusal.{Refusal}
use Rattle.machine.specs.declared.Run.{Run}
use Rattle.telling.specs.Cases.{kind_left, kind_told, content_left, content_told}
use Rattle.telling.specs.Cases.{steps_told, objects_told, changes_told}

-- The value that is told where the run was not refused.
pub value_ran : {a : Result Run Refusal} {r : Run} (m n : ℕ) → a ≡ Ok r
    → (kind_left r.outcome m ≡ kind_told a m) × (content_left r.outcome n ≡ content_told a n)
value_ran m n e = rw e (refl, refl)

-- The counts that are told, where the run was not refused and where it was.
pub ran_told : {a : Result Run Refusal} {r : Run} (l m n : ℕ) → a ≡ Ok r
    → (r.steps ≡ steps_told a l) × (r.objects ≡ objects_told a m) × (r.changes ≡ changes_told a n)
ran_told l m n e = rw e (refl, refl, refl)

pub refused_told : {a : Result Run Refusal} {number line : ℕ} (l m n : ℕ) → a ≡ Err (refusal number line)
    → (l ≡ steps_told a l) × (m ≡ objects_told a m) × (n ≡ changes_told a n)
refused_told l m n e = rw e (refl, refl, refl)

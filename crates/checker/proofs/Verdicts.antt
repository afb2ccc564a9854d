-- The verdict is that of the check. Assumes nothing.
use mathlib.Core.Path.{◌≡◌}
use mathlib.Core.List.{List}
use Prim.Native.Nat.{ℕ}
use Rattle.std.specs.Prelude.{Ok, Err}
use Rattle.language.specs.Verdict.{check, verdict}
use Rattle.language.specs.declared.Refusal.{Refusal}
use Rattle.passes.specs.Answers.{checked_case}
use Rattle.passes.proofs.Passing.{checked_accepted, checked_refused}
use Rattle.checker.specs.Answers.{verdict_case}

pub verdict_accepted : (R : List ℕ) {n : ℕ} → Ok n ≡ checked_case (check R) → Ok tt ≡ verdict_case (verdict R)
unfolding verdict
verdict_accepted R {n} e = rw (checked_accepted (check R) n e).1

pub verdict_refused : (R : List ℕ) {r : Refusal} → Err r ≡ checked_case (check R)
    → Err r ≡ verdict_case (verdict R)
unfolding verdict
verdict_refused R {r} e = rw (checked_refused (check R) r e)

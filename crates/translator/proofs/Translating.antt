-- What the check's answer tells of the translation. Assumes nothing.
use mathlib.Core.Path.{◌≡◌}
use mathlib.Core.List.{List}
use Prim.Native.Nat.{ℕ, ◌≤◌}
use lib.ListN.{length}
use native.Mathlib.Omega.{arith}
use Rattle.std.specs.Prelude.{Ok, Err}
use Rattle.language.specs.declared.Refusal.{Refusal}
use Rattle.language.specs.Results.{refuse, bind_checked}
use Rattle.language.specs.Filling.{answer, buffer}
use Rattle.language.proofs.Filling.{answer_refused}
use Rattle.language.specs.Verdict.{check}
use Rattle.language.specs.Translation.{translation}
use Rattle.passes.specs.Passes.{Checks}
use Rattle.passes.proofs.Passing.{checked_accepted}
use Rattle.plain.specs.Answers.{SomeAccepted}

-- Accepted rows with their tables are what the translator takes.
pub some_accepted : {R E T A M C : List ℕ} {n : ℕ} → length E ≤ length C → Checks R E T A M C (Ok n)
    → SomeAccepted R E T M C
some_accepted {R} {E} {T} {A} {M} {C} {n} l k =
    let x = checked_accepted (check R) n k.answer in
    let y = k.holds x.0 x.1 in
    let h = y.1.headed.here in
    record {
      p = x.0;
      A = A;
      F = y.0;
      accepted = x.1;
      held = y.1;
      beside = omega (arith, l, h.all, h.in_ends);
    }

-- A refusal of the check is one of the translation.
pub translation_refused : (R O : List ℕ) {r : Refusal} → check R ≡ refuse r.number r.line
    → (Err r ≡ answer 4 (translation R) (length O)) × (O ≡ buffer (translation R) O)
unfolding translation bind_checked
translation_refused R O {r} e = answer_refused 4 {m = translation R} r.number r.line O (rw e)

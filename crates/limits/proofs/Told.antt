-- Laws of what the limits tell: of form and of fields together. Assumes nothing.
use mathlib.Core.Path.{◌≡◌, refl, ◌∙◌}
use mathlib.Core.Bool.{Bool, true, false, cond}
use mathlib.Core.List.{List}
use Prim.Native.Nat.{ℕ, ◌%◌}
use native.Mathlib.Omega.{arith}
use lib.Dec.{ltb}
use lib.ListN.{length}
use Rattle.language.specs.Limits.{of_translator}
use Rattle.language.specs.Results.{Checked, accept, refuse, Pass, earlier}
use Rattle.language.specs.Rows.{rows_of}
use Rattle.language.specs.Form.{form}
use Rattle.language.specs.Headings.{headings}
use Rattle.language.specs.Translation.{within_limits}
use Rattle.std.specs.Prelude.{Result, Err}
use Rattle.language.specs.Refusals.{refusal, result_of}
use Rattle.language.specs.declared.Refusal.{Refusal}
use Rattle.form.specs.Answers.{formed_of}
use Rattle.form.specs.declared.Formed.{Formed}
use Rattle.limits.specs.Bounds.{verdict, first_refused, ClassesCounted, SomeCounted, FieldsLimited}
use Rattle.limits.specs.Bounds.{SomeChecked, Limited}
use Rattle.limits.proofs.Standing.{all_stand}

-- the check of a limit and the code tell the same of two refusals
told_earlier : {A B : Type 0} (f : A → B) (x : Checked A) (y : Pass)
    → first_refused (result_of f x) (verdict y) ≡ verdict (earlier x y)
unfolding earlier
told_earlier f (accept a) (accept u) = refl
told_earlier f (accept a) (refuse m l) = refl
told_earlier f (refuse n k) (accept u) = refl
told_earlier f (refuse n k) (refuse m l) = go (ltb l k)
  where
    go : (b : Bool) → ◌≡◌ {A = Result (Unit {0}) Refusal} (cond b (Err (refusal m l)) (Err (refusal n k)))
        (verdict (cond b (refuse m l) (refuse n k)))
    go true = refl
    go false = refl

module _ {R E T : List ℕ} where
  pub checked_whole : SomeChecked R E T → length R % 4 ≡ 0
  checked_whole x = omega (arith, x.held.headed.here.all)

  all_counted : (x : SomeChecked R E T) → ClassesCounted x.p.classes R E T 1 x.p.classes 0
  unfolding headings
  all_counted x = record {
    stand = all_stand x.held.headed.here;
    accepted = x.held.headed.passes;
    numbered = omega arith;
    A = x.A;
    tables = x.held.headed.classes;
  }

  pub checked_counted : SomeChecked R E T → SomeCounted R E T 0
  checked_counted x = record { P = x.p.classes; k = 1; cs = x.p.classes; counted = all_counted x }

  pub limits_answer : {f : Result Formed Refusal} {r s : Result (Unit {0}) Refusal}
      → f ≡ formed_of (form of_translator (rows_of R))
      → FieldsLimited R E T 0 s → r ≡ first_refused f s → Limited R E T r
  unfolding within_limits headings
  limits_answer {f} {r} {s} e h q = record {
    each = λ x. q ∙ rw (e, ← h.each x.p.classes 1 x.p.classes (all_counted x))
        (told_earlier _ (form of_translator (rows_of R)) _);
  }

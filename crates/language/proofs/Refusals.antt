-- Laws of refusals as answers. Assumes nothing.
use mathlib.Core.Path.{◌≡◌, refl, ap}
use Prim.Native.Nat.{ℕ}
use Rattle.std.specs.Prelude.{Result, Ok, Err}
use Rattle.language.specs.Results.{Checked, accept, refuse}
use Rattle.language.specs.Refusals.{refusal, result_of}
use Rattle.language.specs.declared.Refusal.{Refusal}

pub refusal_injective : {n l k j : ℕ} → refusal n l ≡ refusal k j → (n ≡ k) × (l ≡ j)
refusal_injective e = (ap (λ (r : Refusal). r.number) e, ap (λ (r : Refusal). r.line) e)

-- Two answers that refuse alike.
pub err_injective : {A : Type 0} {n l k j : ℕ}
    → ◌≡◌ {A = Result A Refusal} (Err (refusal n l)) (Err (refusal k j)) → (n ≡ k) × (l ≡ j)
err_injective {n} {l} {k} {j} e = let f : refusal n l ≡ refusal k j = cc in refusal_injective f

-- What an answer says of the check that it stands for.
module _ {A B : Type 0} (f : A → B) where
  pub result_ok : (m : Checked A) {b : B} → result_of f m ≡ Ok b → record { a : A; is : m ≡ accept a; gives : f a ≡ b }
  result_ok (accept a) {b} e = let g : f a ≡ b = cc in record { a = a; is = refl; gives = g }
  result_ok (refuse n l) {b} e = absurd (cc)

  pub result_err : (m : Checked A) (r : Refusal) → result_of f m ≡ Err r → m ≡ refuse r.number r.line
  result_err (accept a) r e = absurd (cc)
  result_err (refuse n l) r e = let g : refusal n l ≡ r = cc in
      ap (λ (r : Refusal). refuse r.number r.line) g

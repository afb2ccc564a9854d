-- Laws of the slots at the start of a method's body. Assumes nothing.
use mathlib.Core.Path.{◌≡◌, refl, ◌∙◌}
use mathlib.Core.Logic.{⊎_elim}
use mathlib.Core.List.{List}
use Prim.Native.Nat.{ℕ, ◌+◌, ◌*◌, ◌≤◌, ◌<◌}
use native.Mathlib.Omega.{arith}
use lib.ListN.{length, get_or, set, length-set}
use lib.Seq.{get_or-set_same, get_or-set_other}
use Rattle.language.proofs.Lines.{less_or_same}
use Rattle.bodies.specs.Whole.{PostEnter}
use Rattle.types.specs.Answers.{fresh_in}

-- parameters one by one
pub record Entering (R S S' : List ℕ) (from i : ℕ) : Type 0 where
  pub long : length S' ≡ length S
  pub this : get_or S' 0 0 ≡ get_or S 0 0
  pub parameters : (j : ℕ) → j < i → get_or S' (1 + j) 0 ≡ fresh_in (get_or R ((from + j) * 4 + 1) 0)

pub enter_start : (R S : List ℕ) (from : ℕ) → Entering R S S from 0
enter_start R S from = record { long = refl; this = refl; parameters = λ j m. absurd (omega arith) }

pub enter_step : {R S S' : List ℕ} {from i : ℕ} → Entering R S S' from i → 1 + i < length S → (v : ℕ)
    → v ≡ fresh_in (get_or R ((from + i) * 4 + 1) 0)
    → Entering R S (set S' (1 + i) v) from (i + 1)
enter_step {R} {S} {S'} {from} {i} h l v e = record {
  long = length-set S' (1 + i) v ∙ h.long;
  this = get_or-set_other S' (1 + i) 0 v 0 (λ q. omega arith) ∙ h.this;
  parameters = λ j m. ⊎_elim
      (λ (m : j < i). get_or-set_other S' (1 + i) (1 + j) v 0 (λ q. omega arith) ∙ h.parameters j m)
      (λ (q : j ≡ i). rw q (get_or-set_same S' (1 + i) v 0 (omega (arith, h.long)) ∙ e))
      (less_or_same j i (omega arith));
}

pub enter_long : (R S S' : List ℕ) (this from i : ℕ) → Entering R (set S 0 this) S' from i
    → length S' ≡ length S
enter_long R S S' this from i h = h.long ∙ length-set S 0 this

pub enter_end : (R S S' : List ℕ) (owner this from i n : ℕ) → this ≡ fresh_in owner → n ≤ i → 1 ≤ length S
    → Entering R (set S 0 this) S' from i → PostEnter R S S' owner from n
enter_end R S S' owner this from i n e l m h = record {
  long = enter_long R S S' this from i h;
  this = h.this ∙ (get_or-set_same S 0 this 0 (omega arith) ∙ e);
  parameters = λ j o. h.parameters j (omega arith);
}

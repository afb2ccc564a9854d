-- Laws of the V lines of a block, read one by one. Assumes nothing.
use mathlib.Core.Path.{◌≡◌, refl, sym, ap, ap₂, ◌∙◌}
use mathlib.Core.Bool.{Bool, true, false, cond, false≢true}
use mathlib.Core.Logic.{⊎_elim}
use mathlib.Core.List.{List}
use Prim.Native.Nat.{ℕ, suc, ◌+◌, ◌-◌, ◌*◌, ◌≤◌, ◌<◌}
use native.Mathlib.Omega.{arith}
use lib.ListN.{length, get_or, set, length-set}
use lib.Seq.{get_or-set_same, get_or-set_other}
use Rattle.language.proofs.Lines.{less_or_same}
use Rattle.std.specs.Prelude.{Result, Ok, Err}
use Rattle.language.specs.declared.Refusal.{Refusal}
use Rattle.language.specs.Refusals.{refusal}
use Rattle.types.specs.Answers.{fresh_in, names_type}
use Rattle.typing.specs.Nodes.{opening, PostOpen}

-- V lines one by one
pub record OpenLeft (R S S' : List ℕ) (count at scope v i : ℕ) : Type 0 where
  pub few : i ≤ v
  pub same : opening R count (at + 1) v ≡ opening R count (at + 1 + i) (v - i)
  pub long : length S' ≡ length S
  pub below : (k : ℕ) → k < scope → get_or S' k 0 ≡ get_or S k 0
  pub after : (k : ℕ) → scope + i ≤ k → get_or S' k 0 ≡ get_or S k 0
  pub filled : (j : ℕ) → j < i → get_or S' (scope + j) 0 ≡ fresh_in (get_or R ((at + 1 + j) * 4 + 1) 0)

pub open_start : (R S : List ℕ) (count at scope v : ℕ) → OpenLeft R S S count at scope v 0
open_start R S count at scope v = record {
  few = omega arith;
  same = let q : at + 1 + 0 ≡ at + 1 = omega arith in
      let p : v - 0 ≡ v = omega arith in
      sym (ap₂ (λ (x : ℕ) (y : ℕ). opening R count x y) q p);
  long = refl;
  below = λ k l. refl;
  after = λ k l. refl;
  filled = λ j l. absurd (omega arith);
}

module _ {R S S' : List ℕ} {count at scope v i : ℕ} (h : OpenLeft R S S' count at scope v i) (l : i < v)
    (b : Bool) (n : ℕ)
    (en : n ≡ get_or R ((at + 1 + i) * 4 + 1) 0) (e : b ≡ names_type count n) where
  open_turn : opening R count (at + 1) v
      ≡ cond b (opening R count (at + 1 + i + 1) (v - (i + 1))) (Err (refusal 4 (at + 1 + i + 1)))
  unfolding opening
  open_turn =
      let q : v - i ≡ suc (v - (i + 1)) = omega arith in
      h.same ∙ ap (λ (k : ℕ). opening R count (at + 1 + i) k) q
      ∙ ap (λ (x : Bool). cond x (opening R count (at + 1 + i + 1) (v - (i + 1))) (Err (refusal 4 (at + 1 + i + 1))))
      (sym (e ∙ ap (names_type count) en))

  pub open_step : b ≡ true → scope + v ≤ length S → (u : ℕ) → u ≡ fresh_in n
      → OpenLeft R S (set S' (scope + i) u) count at scope v (i + 1)
  open_step f m u eu = record {
    few = omega arith;
    same =
        let q : at + 1 + i + 1 ≡ at + 1 + (i + 1) = omega arith in
        open_turn ∙ ap (λ (x : Bool). cond x (opening R count (at + 1 + i + 1) (v - (i + 1)))
        (Err (refusal 4 (at + 1 + i + 1)))) f
        ∙ ap (λ (k : ℕ). opening R count k (v - (i + 1))) q;
    long = length-set S' (scope + i) u ∙ h.long;
    below = λ k m. get_or-set_other S' (scope + i) k u 0 (λ q. omega arith) ∙ h.below k m;
    after = λ k m. get_or-set_other S' (scope + i) k u 0 (λ q. omega arith) ∙ h.after k (omega arith);
    filled = λ j o. ⊎_elim
        (λ (o : j < i). get_or-set_other S' (scope + i) (scope + j) u 0 (λ q. omega arith) ∙ h.filled j o)
        (λ (q : j ≡ i). rw q (get_or-set_same S' (scope + i) u 0 (omega (arith, h.long)) ∙
        (eu ∙ ap fresh_in en)))
        (less_or_same j i (omega arith));
  }

  pub open_stop : (r : Result (Unit {0}) Refusal) → b ≡ false → r ≡ Err (refusal 4 (at + 1 + i + 1)) → PostOpen R S S' count at scope v r
  open_stop r f g = record {
    out = g ∙ sym (open_turn ∙ ap (λ (x : Bool). cond x (opening R count (at + 1 + i + 1) (v - (i + 1)))
        (Err (refusal 4 (at + 1 + i + 1)))) f);
    long = h.long;
    below = h.below;
    after = λ k m. h.after k (omega arith);
    filled = λ x. absurd (false≢true (rw g at x));
  }

pub open_end : {R S S' : List ℕ} {count at scope v i : ℕ} → OpenLeft R S S' count at scope v i → v ≤ i
    → (r : Result (Unit {0}) Refusal) → r ≡ Ok tt
    → PostOpen R S S' count at scope v r
unfolding opening
open_end {R} {S} {S'} {count} {at} {scope} {v} {i} h l r e = record {
  out = let q : v - i ≡ 0 = omega arith in e
      ∙ sym (h.same ∙ ap (λ (k : ℕ). opening R count (at + 1 + i) k) q);
  long = h.long;
  below = h.below;
  after = λ k m. h.after k (omega (arith, h.few));
  filled = λ x j o. h.filled j (omega arith);
}

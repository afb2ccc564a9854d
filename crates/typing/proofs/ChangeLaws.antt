-- Laws of what R answers and leaves in the slots, case by case. Assumes nothing.
use mathlib.Core.Path.{◌≡◌, refl, sym, ap, ◌∙◌}
use mathlib.Core.Bool.{Bool, true, false, cond, false≢true}
use mathlib.Core.List.{List}
use Prim.Native.Nat.{ℕ, ◌+◌, ◌*◌, ◌≤◌, ◌<◌}
use native.Mathlib.Omega.{arith}
use borrow.Author.Tests.{eqb-true, eqb-false}
use lib.Dec.{eqb}
use lib.ListN.{length, get_or, set}
use lib.Seq.{get_or-set_same, get_or-set_other}
use Rattle.language.specs.Effects.{effect_of}
use Rattle.std.specs.Prelude.{is_ok}
use Rattle.types.specs.Answers.{Answer, with_current, refused}
use Rattle.types.specs.Tables.{Changed, root_in, applied_slot}
use Rattle.typing.specs.Nodes.{changed_answer, number_after, PostChange}
use Rattle.types.proofs.Halves.{with_again}

-- R refuses, and the slots stay.
pub refused_change : {R T S : List ℕ} {count at scope : ℕ} (r : Answer) (m : ℕ) → r ≡ refused m at
    → r ≡ changed_answer T S count at scope (get_or R (at * 4 + 1) 0) (get_or R (at * 4 + 2) 0)
    → PostChange R T S S count at scope r
refused_change r m e o = record {
  out = o;
  long = refl;
  rest = λ i l. refl;
  slots = λ x. absurd (false≢true (sym (ap is_ok e) ∙ x));
}

-- The root is applied to all slots in scope, then one has the target's class.
pub changed_slots : (T S S' : List ℕ) (scope k d φ u : ℕ) → k < scope → scope ≤ length S
    → φ ≡ effect_of (root_in T d) → Changed S S' scope (λ i. applied_slot T φ (get_or S i 0))
    → u ≡ with_current (get_or S' k 0) d
    → (i : ℕ) → i < scope → get_or (set S' k u) i 0 ≡ number_after T S k d i
unfolding number_after applied_slot
changed_slots T S S' scope k d φ u m ls ep h eu i l =
    let z : u ≡ with_current (get_or S k 0) d =
    eu ∙ (ap (λ (x : ℕ). with_current x d) (h.below k m) ∙ with_again (get_or S k 0) _ d) in
    go S' (λ c. applied_slot T φ (get_or S c 0)) (omega (arith, h.long)) z i (h.below i l)
    ∙ ap (λ (c : ℕ). cond (eqb i k) (with_current (get_or S i 0) d) (applied_slot T c (get_or S i 0))) ep
  where
    go : (U : List ℕ) (F : ℕ → ℕ) → k < length U → u ≡ with_current (get_or S k 0) d → (y : ℕ) → get_or U y 0 ≡ F y
        → get_or (set U k u) y 0 ≡ cond (eqb y k) (with_current (get_or S y 0) d) (F y)
    go U F lk eu y e = by-test (eqb y k) refl
      where
        by-test : (b : Bool) → eqb y k ≡ b
            → get_or (set U k u) y 0 ≡ cond b (with_current (get_or S y 0) d) (F y)
        by-test true q = let z : y ≡ k = eqb-true y k q in rw z (get_or-set_same U k u 0 lk ∙ eu)
        by-test false q = get_or-set_other U k y u 0 (eqb-false y k q) ∙ e

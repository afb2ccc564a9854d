-- Laws of effects: sets of classes as numbers. They hold of every class number, and so over every class count up to 64.
-- Assumes nothing.
use mathlib.Core.Path.{◌≡◌, refl, sym, ap, ◌∙◌}
use mathlib.Core.Bool.{Bool, true, false, ◌||◌}
use mathlib.Core.Logic.{◌⊎◌, inl, inr, ⊎_elim}
use Prim.Native.Nat.{ℕ, zero, suc, ◌+◌, ◌-◌, ◌*◌, ◌/◌, ◌%◌, ◌^◌, ◌≤◌, ◌<◌}
use native.Mathlib.Nat.{div-eq_of_lt, mul-mod_left, one-mul}
use native.Mathlib.Omega.{arith}
use borrow.Author.Tests.{eq-eqb, eqb-true, eqb-false}
use lib.Dec.{eqb}
use lib.Bits.{bit_and, bit_or, or_shr, or_mod, and_mask}
use lib.Pow.{pow_pos, pow-lt, pow-add, shl_exact, shl-shr}
use Rattle.language.specs.Effects.{no_effect, member, join, effect_of}

pub small : (n : ℕ) → n % 2 < 2
small n = omega arith

or_bit : (x y : ℕ) → x < 2 → y < 2 → eqb (bit_or x y) 1 ≡ eqb x 1 || eqb y 1
or_bit zero zero p q = refl
or_bit zero (suc zero) p q = refl
or_bit (suc zero) zero p q = refl
or_bit (suc zero) (suc zero) p q = refl
or_bit zero (suc (suc y)) p q = absurd (omega arith)
or_bit (suc zero) (suc (suc y)) p q = absurd (omega arith)
or_bit (suc (suc x)) y p q = absurd (omega arith)

-- A class is in a union where it is in one of the two.
pub member_join : (a b c : ℕ) → member (join a b) c ≡ member a c || member b c
unfolding member join
member_join a b c =
    let k : ℕ = c - 1 in
    ap (λ (x : ℕ). eqb (x % 2) 1) (or_shr a b k)
    ∙ (ap (λ (x : ℕ). eqb x 1) (or_mod (a / 2 ^ k) (b / 2 ^ k) 1)
    ∙ or_bit (a / 2 ^ k % 2) (b / 2 ^ k % 2) (small (a / 2 ^ k)) (small (b / 2 ^ k)))

-- No class is in the empty set.
pub member_none : (c : ℕ) → member no_effect c ≡ false
unfolding member
member_none c = let e : 0 / 2 ^ (c - 1) ≡ 0 = div-eq_of_lt (pow_pos (c - 1)) in
    ap (λ (x : ℕ). eqb (x % 2) 1) e

-- The test by shift and mask.
pub member_mask : (a c : ℕ) → eqb (bit_and (a / 2 ^ (c - 1)) 1) 1 ≡ member a c
unfolding member
member_mask a c = ap (λ (x : ℕ). eqb x 1) (and_mask (a / 2 ^ (c - 1)) 1)

-- The set of one class, by a shift.
pub one_shifted : (k : ℕ) → k < 64 → 1 * 2 ^ k % 2 ^ 64 ≡ 2 ^ k
one_shifted k q = shl_exact 1 k 64 (omega arith) (omega arith) ∙ one-mul (2 ^ k)

tri : (k j : ℕ) → (k < j) ⊎ ((k ≡ j) ⊎ (j < k))
tri zero zero = inr (inl refl)
tri zero (suc j) = inl (omega arith)
tri (suc k) zero = inr (inr (omega arith))
tri (suc k) (suc j) =
    ⊎_elim (λ l. inl (omega arith)) (λ m. inr (⊎_elim (λ e. inl (ap suc e)) (λ l. inr (omega arith)) m))
    (tri k j)

one_bit : (k j : ℕ) → 2 ^ k / 2 ^ j % 2 ≡ 1 → k ≡ j
one_bit k j h = ⊎_elim
    (λ l. absurd (eqb-false 0 1 refl (ap (λ (x : ℕ). x % 2) (sym (div-eq_of_lt (pow-lt l))) ∙ h)))
    (λ m. ⊎_elim (λ e. e) (λ l. absurd (eqb-false 0 1 refl (sym (even l) ∙ h))) m)
    (tri k j)
  where
    even : j < k → 2 ^ k / 2 ^ j % 2 ≡ 0
    even l =
        let m : ℕ = k - j - 1 in
        let e : k ≡ (m + 1) + j = omega arith in
        ap (λ (x : ℕ). x / 2 ^ j % 2) (ap (λ (x : ℕ). 2 ^ x) e ∙ pow-add 2 (m + 1) j)
        ∙ (ap (λ (x : ℕ). x % 2) (shl-shr (2 ^ (m + 1)) j)
        ∙ (ap (λ (x : ℕ). x % 2) (pow-add 2 m 1) ∙ mul-mod_left (2 ^ m) 2))

same_test : (p q : Bool) → (p ≡ true → q ≡ true) → (q ≡ true → p ≡ true) → p ≡ q
same_test true q f g = sym (f refl)
same_test false true f g = g refl
same_test false false f g = refl

-- The set of one class has that class alone.
pub member_of : (c d : ℕ) → 1 ≤ c → 1 ≤ d → member (effect_of c) d ≡ eqb c d
unfolding member effect_of
member_of c d p r =
    same_test (eqb (2 ^ (c - 1) / 2 ^ (d - 1) % 2) 1) (eqb c d)
    (λ e. eq-eqb c d
    (let k : c - 1 ≡ d - 1 = one_bit (c - 1) (d - 1) (eqb-true (2 ^ (c - 1) / 2 ^ (d - 1) % 2) 1 e) in
    omega arith))
    (λ e. eq-eqb (2 ^ (c - 1) / 2 ^ (d - 1) % 2) 1
    (let same : d ≡ c = sym (eqb-true c d e) in
    ap (λ (x : ℕ). 2 ^ (c - 1) / 2 ^ (x - 1) % 2) same
    ∙ ap (λ (x : ℕ). x % 2)
    (ap (λ (x : ℕ). x / 2 ^ (c - 1)) (sym (one-mul (2 ^ (c - 1)))) ∙ shl-shr 1 (c - 1))))

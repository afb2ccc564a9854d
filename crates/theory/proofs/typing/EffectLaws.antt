-- Laws of effects: membership and containment of joins, and of the numbers of X lines; no effect changes no
-- type.
use mathlib.Core.Path.{◌≡◌, sym, ap, ap₂, ◌∙◌, subst, refl}
use mathlib.Core.Bool.{true}
use mathlib.Core.List.{List, [], ◌∷◌}
use Prim.Native.Nat.{ℕ, zero, suc, ◌+◌, ◌-◌, ◌*◌, ◌/◌, ◌%◌, ◌^◌, ◌<◌}
use native.Mathlib.Nat.{div-add-mod', one-mul, mod-lt, pow-suc, div_self}
use native.Mathlib.Omega.{arith}
use borrow.Author.Tests.{eqb-true, eq-eqb}
use lib.Dec.{leb, ltb, eqb}
use lib.Bits.{bit_and, bit_or, or_shr, or_mod, and_shr, and_mod, and_le_l, and_block, and_mask, and_comm}
use lib.Bits.{and_self, and_zero_l}
use lib.Pow.{pow_pos, shr-shr, shr_lt}
use Rattle.language.specs.Limits.{of_check}
use Rattle.language.specs.Effects.{no_effect, effect_of, member, join, within, effect_of_all, apply_class}
use Rattle.language.specs.Effects.{apply, apply_expr}
use Rattle.language.specs.World.{World}
use Rattle.language.specs.Tree.{DeclaredType, bool, class, ExprType, known, null_type}
use Rattle.language.specs.Headings.{lines_within}
use Rattle.language.proofs.Effects.{member_none, member_join, small}
use Rattle.language.proofs.Booleans.{false≢, and_inv, or_inl, or_inr}

pub has_left : (φ ψ : ℕ) (r : ℕ) → member φ r ≡ true → member (join φ ψ) r ≡ true
has_left φ ψ r h = member_join φ ψ r ∙ or_inl (member φ r) (member ψ r) h

pub has_right : (φ ψ : ℕ) (r : ℕ) → member ψ r ≡ true → member (join φ ψ) r ≡ true
has_right φ ψ r h = member_join φ ψ r ∙ or_inr (member φ r) (member ψ r) h

and_bit : (x y : ℕ) → x < 2 → y < 2 → bit_and x y ≡ x → eqb x 1 ≡ true → eqb y 1 ≡ true
and_bit zero y p q e h = false≢ h
and_bit (suc zero) zero p q e h = absurd (omega arith)
and_bit (suc zero) (suc zero) p q e h = refl
and_bit (suc zero) (suc (suc y)) p q e h = absurd (omega arith)
and_bit (suc (suc x)) y p q e h = absurd (omega arith)

pub has_within : (φ ψ : ℕ) (r : ℕ) → within φ ψ ≡ true → member φ r ≡ true → member ψ r ≡ true
unfolding member within
has_within φ ψ r i h = let k : ℕ = r - 1 in
    and_bit (φ / 2 ^ k % 2) (ψ / 2 ^ k % 2) (small (φ / 2 ^ k)) (small (ψ / 2 ^ k))
    (sym (ap (λ (x : ℕ). x % 2) (and_shr φ ψ k) ∙ and_mod (φ / 2 ^ k) (ψ / 2 ^ k) 1)
    ∙ ap (λ (x : ℕ). x / 2 ^ k % 2) (eqb-true (bit_and φ ψ) φ i)) h

pub has_one : (r : ℕ) → member (effect_of r) r ≡ true
unfolding member effect_of
has_one r = rw (div_self (pow_pos (r - 1)))

-- two numbers of n bits with the same bits are equal
bits_ext : (n x y : ℕ) → x < 2 ^ n → y < 2 ^ n → ((k : ℕ) → k < n → x / 2 ^ k % 2 ≡ y / 2 ^ k % 2) → x ≡ y
bits_ext zero x y p q h = omega arith
bits_ext (suc n) x y p q h =
    let half : x / 2 ≡ y / 2 = bits_ext n (x / 2) (y / 2) (shr_lt n 1 (subst (λ (m : ℕ). x < 2 ^ m) one p))
    (shr_lt n 1 (subst (λ (m : ℕ). y < 2 ^ m) one q))
    (λ k l. digit x k ∙ (h (suc k) (omega arith) ∙ sym (digit y k))) in
    let low : x % 2 ≡ y % 2 = ap (λ (z : ℕ). z % 2) (sym (whole x))
    ∙ (h 0 (omega arith) ∙ ap (λ (z : ℕ). z % 2) (whole y)) in
    omega arith
  where
    one : suc n ≡ n + 1
    one = omega arith

    whole : (z : ℕ) → z / 2 ^ 0 ≡ z
    whole z = omega arith

    digit : (z k : ℕ) → z / 2 / 2 ^ k % 2 ≡ z / 2 ^ suc k % 2
    digit z k = let e : 1 + k ≡ suc k = omega arith in
        ap (λ (w : ℕ). w % 2) (shr-shr z 1 k ∙ ap (λ (j : ℕ). z / 2 ^ j) e)

below_power : (n : ℕ) → n < 2 ^ n
below_power zero = omega arith
below_power (suc n) = omega (arith, below_power n, pow-suc 2 n)

and_digit : (a b k : ℕ) → bit_and a b / 2 ^ k % 2 ≡ bit_and (a / 2 ^ k % 2) (b / 2 ^ k % 2)
and_digit a b k = ap (λ (x : ℕ). x % 2) (and_shr a b k) ∙ and_mod (a / 2 ^ k) (b / 2 ^ k) 1

or_digit : (a b k : ℕ) → bit_or a b / 2 ^ k % 2 ≡ bit_or (a / 2 ^ k % 2) (b / 2 ^ k % 2)
or_digit a b k = ap (λ (x : ℕ). x % 2) (or_shr a b k) ∙ or_mod (a / 2 ^ k) (b / 2 ^ k) 1

both_bits : (x y z : ℕ) → x < 2 → y < 2 → z < 2 → bit_and x z ≡ x → bit_and y z ≡ y
    → bit_and (bit_or x y) z ≡ bit_or x y
both_bits zero zero z p q r e f = e
both_bits zero (suc zero) z p q r e f = f
both_bits (suc zero) zero z p q r e f = e
both_bits (suc zero) (suc zero) z p q r e f = e
both_bits zero (suc (suc y)) z p q r e f = absurd (omega arith)
both_bits (suc zero) (suc (suc y)) z p q r e f = absurd (omega arith)
both_bits (suc (suc x)) y z p q r e f = absurd (omega arith)

second_bit : (x y z : ℕ) → x < 2 → y < 2 → z < 2 → bit_and (bit_or x y) z ≡ bit_or x y → bit_and y z ≡ y
second_bit zero zero z p q r e = e
second_bit zero (suc zero) z p q r e = e
second_bit (suc zero) zero z p q r e = and_zero_l z
second_bit (suc zero) (suc zero) z p q r e = e
second_bit zero (suc (suc y)) z p q r e = absurd (omega arith)
second_bit (suc zero) (suc (suc y)) z p q r e = absurd (omega arith)
second_bit (suc (suc x)) y z p q r e = absurd (omega arith)

-- containment is containment bit by bit
masked : (a φ : ℕ) → ((k : ℕ) → bit_and (a / 2 ^ k % 2) (φ / 2 ^ k % 2) ≡ a / 2 ^ k % 2) → within a φ ≡ true
unfolding within
masked a φ h = eq-eqb (bit_and a φ) a (bits_ext a (bit_and a φ) a (omega (arith, and_le_l a φ, below_power a))
    (below_power a) (λ k l. and_digit a φ k ∙ h k))

mask_bits : (a φ : ℕ) → within a φ ≡ true → (k : ℕ) → bit_and (a / 2 ^ k % 2) (φ / 2 ^ k % 2) ≡ a / 2 ^ k % 2
unfolding within
mask_bits a φ e k = sym (and_digit a φ k) ∙ ap (λ (x : ℕ). x / 2 ^ k % 2) (eqb-true (bit_and a φ) a e)

within_join : (a b φ : ℕ) → within a φ ≡ true → within b φ ≡ true → within (join a b) φ ≡ true
unfolding join
within_join a b φ e f = masked (bit_or a b) φ λ k. rw (or_digit a b k)
    (both_bits (a / 2 ^ k % 2) (b / 2 ^ k % 2) (φ / 2 ^ k % 2) (small (a / 2 ^ k)) (small (b / 2 ^ k))
    (small (φ / 2 ^ k)) (mask_bits a φ e k) (mask_bits b φ f k))

within_right : (a b φ : ℕ) → within (join a b) φ ≡ true → within b φ ≡ true
unfolding join
within_right a b φ e = masked b φ λ k. second_bit (a / 2 ^ k % 2) (b / 2 ^ k % 2) (φ / 2 ^ k % 2)
    (small (a / 2 ^ k)) (small (b / 2 ^ k)) (small (φ / 2 ^ k))
    (rw (or_digit a b k) at (mask_bits (bit_or a b) φ e k))

member_within : (φ c : ℕ) → member φ c ≡ true → within (effect_of c) φ ≡ true
unfolding member within effect_of
member_within φ c e =
    let k : ℕ = c - 1 in
    let bit : φ / 2 ^ k % 2 ≡ 1 = eqb-true (φ / 2 ^ k % 2) 1 e in
    let left : 2 ^ k ≡ 1 * 2 ^ k + 0 = omega (arith, one-mul (2 ^ k)) in
    let right : φ ≡ φ / 2 ^ k * 2 ^ k + φ % 2 ^ k = sym (div-add-mod' φ (2 ^ k)) in
    let one : bit_and 1 (φ / 2 ^ k) ≡ 1 = and_comm 1 (φ / 2 ^ k) ∙ (and_mask (φ / 2 ^ k) 1 ∙ bit) in
    eq-eqb (bit_and (2 ^ k) φ) (2 ^ k) (ap₂ bit_and left right
    ∙ (and_block k 1 (φ / 2 ^ k) 0 (φ % 2 ^ k) (pow_pos k) (mod-lt φ (pow_pos k))
    ∙ (ap₂ (λ (x y : ℕ). x * 2 ^ k + y) one (and_zero_l (φ % 2 ^ k)) ∙ sym left)))

none_within : (φ : ℕ) → within no_effect φ ≡ true
unfolding within
none_within φ = eq-eqb (bit_and 0 φ) 0 (and_zero_l φ)

pub lines_within_is : (cs : List ℕ) (φ : ℕ) → lines_within cs φ ≡ true → within (effect_of_all cs) φ ≡ true
unfolding lines_within effect_of_all
lines_within_is [] φ e = none_within φ
lines_within_is (c ∷ cs) φ e = let p = and_inv (ltb 0 c) _ e in
    let q = and_inv (leb c of_check.classes) _ p.1 in let r = and_inv (member φ c) _ q.1 in
    within_join (effect_of c) (effect_of_all cs) φ (member_within φ c r.0) (lines_within_is cs φ r.1)

-- one step of the other way round
pub member_of_all : (c : ℕ) (cs : List ℕ) (φ : ℕ) → within (effect_of_all (c ∷ cs)) φ ≡ true
    → (member φ c ≡ true) × (within (effect_of_all cs) φ ≡ true)
unfolding effect_of_all
member_of_all c cs φ e = (
  has_within (join (effect_of c) (effect_of_all cs)) φ c e
      (has_left (effect_of c) (effect_of_all cs) c (has_one c)),
  within_right (effect_of c) (effect_of_all cs) φ e,
)

-- containment is an order
pub within_refl : (φ : ℕ) → within φ φ ≡ true
unfolding within
within_refl φ = eq-eqb (bit_and φ φ) φ (and_self φ)

third_bit : (x y z : ℕ) → x < 2 → y < 2 → bit_and x y ≡ x → bit_and y z ≡ y → bit_and x z ≡ x
third_bit zero y z p q e f = and_zero_l z
third_bit (suc zero) zero z p q e f = absurd (omega arith)
third_bit (suc zero) (suc zero) z p q e f = f
third_bit (suc zero) (suc (suc y)) z p q e f = absurd (omega arith)
third_bit (suc (suc x)) y z p q e f = absurd (omega arith)

pub within_trans : (a b φ : ℕ) → within a b ≡ true → within b φ ≡ true → within a φ ≡ true
within_trans a b φ e f = masked a φ λ k.
    third_bit (a / 2 ^ k % 2) (b / 2 ^ k % 2) (φ / 2 ^ k % 2) (small (a / 2 ^ k)) (small (b / 2 ^ k))
    (mask_bits a b e k) (mask_bits b φ f k)

module _ (W : World) where
  -- No effect changes no type.
  pub class_kept : (c : ℕ) → apply_class W no_effect c ≡ c
  unfolding apply_class
  class_kept c = rw (member_none (W.root c))

  pub type_kept : (t : DeclaredType) → apply W no_effect t ≡ t
  type_kept bool = refl
  type_kept (class c) = ap class (class_kept c)

  pub expr_kept : (t : ExprType) → apply_expr W no_effect t ≡ t
  expr_kept (known t) = ap known (type_kept t)
  expr_kept null_type = refl

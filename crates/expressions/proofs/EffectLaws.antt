-- Laws of effects: their union, and what none of them does. Assumes nothing.
use mathlib.Core.Path.{◌≡◌, refl, sym, ap, ◌∙◌}
use Prim.Native.Nat.{ℕ, zero, suc, ◌/◌, ◌%◌, ◌<◌}
use native.Mathlib.Omega.{arith}
use lib.Arith.{bin_ind}
use lib.Bits.{bit_or, or_shr, or_mod, or_zero_r}
use Rattle.language.specs.Effects.{join, apply_class, apply_expr}
use Rattle.language.specs.Tree.{bool, class, ExprType, known, null_type}
use Rattle.language.specs.World.{World}
use Rattle.language.proofs.Effects.{member_none}
use Rattle.types.specs.declared.Typing.{Typing}
use Rattle.types.specs.Answers.{typed_case}

-- Numbers joined bit by bit, in another order.
or_bits : (x y z : ℕ) → x < 2 → y < 2 → z < 2 → bit_or (bit_or x y) z ≡ bit_or x (bit_or y z)
or_bits zero y z p q r = refl
or_bits (suc zero) zero z p q r = refl
or_bits (suc zero) (suc zero) zero p q r = refl
or_bits (suc zero) (suc zero) (suc zero) p q r = refl
or_bits (suc zero) (suc zero) (suc (suc z)) p q r = absurd (omega arith)
or_bits (suc zero) (suc (suc y)) z p q r = absurd (omega arith)
or_bits (suc (suc x)) y z p q r = absurd (omega arith)

same_halves : (x y : ℕ) → x / 2 ≡ y / 2 → x % 2 ≡ y % 2 → x ≡ y
same_halves x y p q = omega arith

or_assoc : (a b c : ℕ) → bit_or (bit_or a b) c ≡ bit_or a (bit_or b c)
or_assoc = bin_ind (λ (n : ℕ). (b c : ℕ) → bit_or (bit_or n b) c ≡ bit_or n (bit_or b c)) (λ b c. refl)
    (λ n ih b c. same_halves (bit_or (bit_or n b) c) (bit_or n (bit_or b c))
    (or_shr (bit_or n b) c 1 ∙ ap (λ (z : ℕ). bit_or z (c / 2)) (or_shr n b 1) ∙ ih (b / 2) (c / 2)
    ∙ sym (or_shr n (bit_or b c) 1 ∙ ap (λ (z : ℕ). bit_or (n / 2) z) (or_shr b c 1)))
    (or_mod (bit_or n b) c 1 ∙ ap (λ (z : ℕ). bit_or z (c % 2)) (or_mod n b 1)
    ∙ or_bits (n % 2) (b % 2) (c % 2) (omega arith) (omega arith) (omega arith)
    ∙ sym (or_mod n (bit_or b c) 1 ∙ ap (λ (z : ℕ). bit_or (n % 2) z) (or_mod b c 1))))

-- Effects joined in another order, and with none.
pub join_assoc : (a b c : ℕ) → join (join a b) c ≡ join a (join b c)
unfolding join
join_assoc = or_assoc

pub join_none : (a : ℕ) → join a 0 ≡ a
unfolding join
join_none a = or_zero_r a

pub none_join : (φ : ℕ) → join 0 φ ≡ φ
unfolding join
none_join φ = refl

pub apply_none : (W : World) (t : ExprType) → apply_expr W 0 t ≡ t
unfolding apply_class
apply_none W (known bool) = refl
apply_none W (known (class c)) = rw (member_none (W.root c))
apply_none W null_type = refl

-- the code's union is the definition's
pub or_join : (a b : ℕ) → bit_or a b ≡ join a b
unfolding join
or_join a b = refl

pub join_or : (t : Typing) (a b : ℕ) → typed_case t (bit_or a b) ≡ typed_case t (join a b)
join_or t a b = ap (typed_case t) (or_join a b)

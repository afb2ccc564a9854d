-- Laws of what Q answers and leaves: too many arguments, arguments against their types, the method found. Assumes nothing.
use mathlib.Core.Path.{◌≡◌, refl, sym, ap, ◌∙◌, ap₂}
use mathlib.Core.List.{List}
use Prim.Native.Nat.{ℕ, zero, suc, ◌+◌, ◌*◌}
use Rattle.std.specs.List.{list_all, range_with_len}
use lib.ListN.{get_or}
use Rattle.types.specs.declared.Typing.{Typing}
use Rattle.types.specs.declared.Typing.TheVariants.{Class}
use Rattle.types.specs.Answers.{answer, case_of_number, stored_case}
use Rattle.types.specs.Tables.{is_fitting, applied}
use Rattle.access.specs.Calls.{all_fitting, PreInvoke, method_place}
use Rattle.access.specs.Calls.{PreMethod}
use native.Mathlib.Omega.{arith}
use lib.Bits.{bit_or}
use Rattle.language.specs.Effects.{join}
use Rattle.types.specs.declared.slots.Scope.{Scope}

-- arguments one by one
pub fitting_all : (R A S : List ℕ) (from row n : ℕ)
    → list_all (λ i. is_fitting A (stored_case (get_or S (from + i) 0)) (get_or R ((row + i) * 4 + 1) 0))
    (range_with_len 0 n) ≡ all_fitting R A S from row n
unfolding all_fitting
fitting_all R A S from row n =
    let p : from ≡ from + 0 = omega arith in
    let q : row ≡ row + 0 = omega arith in
    go n 0 ∙ sym (ap₂ (λ (x : ℕ) (y : ℕ). all_fitting R A S x y n) p q)
  where
    go : (n j : ℕ)
        → list_all (λ i. is_fitting A (stored_case (get_or S (from + i) 0)) (get_or R ((row + i) * 4 + 1) 0))
        (range_with_len j n) ≡ all_fitting R A S (from + j) (row + j) n
    go zero j = refl
    go (suc n) j =
        let p : from + j + 1 ≡ from + (j + 1) = omega arith in
        let q : row + j + 1 ≡ row + (j + 1) = omega arith in
        rw (p, q, go n (j + 1))

-- Q: the table's number for a method, and its result
module _ (T : List ℕ) (ψ c k m n stored : ℕ) (e : k ≡ applied T ψ c) (n_is : n ≡ m)
    (f : stored ≡ get_or T (k * 576 + (256 + n)) 0) where
  pub place_none : stored ≡ 0 → method_place T (applied T ψ c) m ≡ 0
  place_none z = rw (← e, ← n_is) (sym f ∙ z)

  pub place_some : {i : ℕ} → stored ≡ suc i → method_place T (applied T ψ c) m ≡ suc i
  place_some q = rw (← e, ← n_is) (sym f ∙ q)

pub called_method : {R T A M F S : List ℕ} {at : ℕ} {scope : Scope} {t : Typing} {ψ : ℕ}
    → PreInvoke R T A M F S at scope t ψ → {c k n stored : ℕ} → t ≡ Class c → k ≡ applied T ψ c
    → n ≡ get_or R (at * 4 + 1) 0 → stored ≡ get_or T (k * 576 + (256 + n)) 0 → (i : ℕ) → stored ≡ suc i
    → PreMethod R A M F S scope.top (get_or R (at * 4 + 2) 0) i
called_method p q e n_is f i z = p.method _ _ q (place_some _ _ _ _ _ _ _ e n_is f z)

pub done_out : (R : List ℕ) (row place φ ψ ε m : ℕ) (t : Typing) → place ≡ row → m ≡ get_or R (place * 4 + 1) 0
    → t ≡ case_of_number m
    → answer t (bit_or (bit_or φ ψ) ε) ≡ answer (case_of_number (get_or R (row * 4 + 1) 0)) (join (join φ ψ) ε)
unfolding join
done_out R row place φ ψ ε m t z e f = ap (λ (x : Typing). answer x (bit_or (bit_or φ ψ) ε)) (f ∙ ap case_of_number (e ∙ ap (λ (x : ℕ). get_or R (x * 4 + 1) 0) z))

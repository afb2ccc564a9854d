-- Laws of counted lines that numbers hold.
use mathlib.Core.Path.{◌≡◌, refl, ap, ◌∙◌}
use mathlib.Core.Logic.{◌⊎◌, inl, inr}
use mathlib.Core.List.{List, [], ◌∷◌, ◌++◌}
use mathlib.Core.Option.{some}
use Prim.Native.Nat.{ℕ, zero, suc, ◌+◌, ◌*◌, ◌≤◌, ◌<◌}
use native.Mathlib.Omega.{arith}
use lib.ListN.{length, length-append, get_or, set}
use Rattle.language.specs.Lists.{nth, nth_append, nth_last}
use Rattle.language.proofs.Lines.{less_or_same}
use Rattle.fleet.specs.Entries.{entry, entries}

-- Numbers that agree at a line's four places have the same line there.
pub entry_same : (T T' : List ℕ) (e : ℕ)
    → ((i : ℕ) → e * 4 ≤ i → i < e * 4 + 4 → get_or T i 0 ≡ get_or T' i 0) → entry T e ≡ entry T' e
unfolding entry
entry_same T T' e same = rw (
  same (e * 4) (omega arith) (omega arith),
  same (e * 4 + 1) (omega arith) (omega arith),
  same (e * 4 + 2) (omega arith) (omega arith),
  same (e * 4 + 3) (omega arith) (omega arith),
) refl

pub entries_same : (T T' : List ℕ) (n : ℕ)
    → ((i : ℕ) → i < n * 4 → get_or T i 0 ≡ get_or T' i 0) → entries T n ≡ entries T' n
unfolding entries
entries_same T T' zero same = refl
entries_same T T' (suc n) same = rw (
  entries_same T T' n (λ i l. same i (omega (arith, l))),
  entry_same T T' n (λ i l m. same i (omega (arith, m))),
) refl

pub entries_length : (T : List ℕ) (n : ℕ) → length (entries T n) ≡ n
unfolding entries
entries_length T zero = refl
entries_length T (suc n) = length-append (entries T n) _ ∙ omega (arith, entries_length T n)

pub entries_nth : (T : List ℕ) (n e : ℕ) → e < n → nth (entries T n) e ≡ some (entry T e)
unfolding entries
entries_nth T zero e l = absurd (omega arith)
entries_nth T (suc n) e l = elim (less_or_same e n (omega (arith, l))) [
  | inl m ↦ nth_append (entries T n) _ e _ (entries_nth T n e m)
  | inr q ↦ rw q (rw (entries_length T n) at (nth_last (entries T n) (entry T n)))
]

set_append_left : {A : Type 0} (l r : List A) (i : ℕ) (a : A) → i < length l
    → set (l ++ r) i a ≡ set l i a ++ r
set_append_left [] r i a m = absurd (omega arith)
set_append_left (x ∷ l) r zero a m = refl
set_append_left (x ∷ l) r (suc i) a m = ap (λ z. x ∷ z) (set_append_left l r i a (omega (arith, m)))

set_last : {A : Type 0} (l : List A) (a b : A) → set (l ++ (a ∷ [])) (length l) b ≡ l ++ (b ∷ [])
set_last [] a b = refl
set_last (x ∷ l) a b = ap (λ z. x ∷ z) (set_last l a b)

-- Numbers that differ at one line alone.
pub entries_set : (T T' : List ℕ) (n e : ℕ) → e < n
    → ((i : ℕ) → (i < e * 4) ⊎ (e * 4 + 4 ≤ i) → get_or T i 0 ≡ get_or T' i 0)
    → set (entries T n) e (entry T' e) ≡ entries T' n
unfolding entries
entries_set T T' zero e l same = absurd (omega arith)
entries_set T T' (suc n) e l same = elim (less_or_same e n (omega (arith, l))) [
  | inl m ↦ set_append_left (entries T n) _ e _ (omega (arith, entries_length T n, m))
      ∙ rw (entries_set T T' n e m same, entry_same T T' n (λ i a b. same i (inr (omega (arith, a, m))))) refl
  | inr q ↦ rw q (rw (entries_length T n) at (set_last (entries T n) (entry T n) (entry T' n))
      ∙ rw (entries_same T T' n (λ i a. same i (inl (omega (arith, a, q))))) refl)
]

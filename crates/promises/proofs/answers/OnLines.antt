-- Lists with one entry a line: what holds of the entry on a line, where the first stands on line `at`.
use mathlib.Core.Path.{◌≡◌, refl, subst}
use Prim.Native.Nat.{ℕ, zero, suc, ◌+◌, ◌≤◌, ◌<◌}
use mathlib.Core.Option.{some}
use mathlib.Core.List.{List, [], ◌∷◌, ◌++◌, map}
use lib.ListN.{length}
use native.Mathlib.Omega.{arith}
use Rattle.language.specs.Lists.{nth}

-- The entry on a line is one of which P holds: it is the first, or it stands later.
pub data OnLine {A : Type 0} (P : A → Type 0) : ℕ → List A → ℕ → Type 0 where
  here : {at : ℕ} {a : A} {rest : List A} → P a → OnLine P at (a ∷ rest) at
  later : {at l : ℕ} {a : A} {rest : List A} → OnLine P (at + 1) rest l → OnLine P at (a ∷ rest) l

module _ {A : Type 0} {P : A → Type 0} where
  -- In the first of two lists.
  pub on_left : {at l : ℕ} {xs : List A} (ys : List A) → OnLine P at xs l → OnLine P at (xs ++ ys) l
  on_left ys (here p) = here p
  on_left ys (later h) = later (on_left ys h)

  -- In the second of two lists, which begins n lines after the first.
  pub on_right : {at l : ℕ} (xs : List A) {ys : List A} (n : ℕ) → length xs ≡ n → OnLine P (at + n) ys l
      → OnLine P at (xs ++ ys) l
  on_right {l} [] {ys} n e h = subst (λ (k : ℕ). OnLine P k ys l) (omega (arith, e)) h
  on_right {at} {l} (x ∷ xs) {ys} n e h = later {at = at}
      (on_right {at = at + 1} xs (length xs) refl (subst (λ (k : ℕ). OnLine P k ys l) (omega (arith, e)) h))

  -- The lines of a list are as many as its entries.
  pub on_from : {at l : ℕ} {xs : List A} → OnLine P at xs l → at ≤ l
  on_from (here p) = omega arith
  on_from (later h) = omega (arith, on_from h)

  pub on_to : {at l : ℕ} {xs : List A} → OnLine P at xs l → l < at + length xs
  on_to (here p) = omega arith
  on_to (later h) = omega (arith, on_to h)

  -- The entry on a line is found at its place, from 0.
  pub on_nth : {at l : ℕ} {xs : List A} → OnLine P at xs l → (k : ℕ) → l ≡ at + k
      → (a : A) × (nth xs k ≡ some a) × P a
  unfolding nth
  on_nth (here {a} p) zero e = (a, refl, p)
  on_nth (here p) (suc k) e = absurd (omega (arith, e))
  on_nth (later h) zero e = absurd (omega (arith, e, on_from h))
  on_nth (later h) (suc k) e = on_nth h k (omega (arith, e))

  -- What is made of each entry is on the same line.
  pub on_map : {B : Type 0} {Q : B → Type 0} (f : A → B) → ((a : A) → P a → Q (f a))
      → {at l : ℕ} {xs : List A} → OnLine P at xs l → OnLine Q at (map f xs) l
  on_map f g (here p) = here (g _ p)
  on_map f g (later h) = later (on_map f g h)

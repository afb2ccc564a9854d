-- Laws of the members of a list by place. Assumes nothing.
use mathlib.Core.Path.{◌≡◌, refl, ap, ap₂}
use mathlib.Core.Bool.{Bool, true, false}
use mathlib.Core.Logic.{◌⊎◌, inl, inr}
use mathlib.Core.Option.{none, some}
use mathlib.Core.List.{List, [], ◌∷◌, ◌++◌, map}
use Prim.Native.Nat.{ℕ, zero, suc, ◌+◌, ◌≤◌, ◌<◌}
use native.Mathlib.Nat.{suc_inj}
use native.Mathlib.Omega.{arith}
use borrow.Author.Tests.{ltb-true, ltb-false}
use lib.Dec.{ltb}
use lib.ListN.{length, get_or, take, drop, set}
use Rattle.language.specs.Lists.{nth, inj}
use mathlib.Core.Path.{◌≡◌, refl, ap, ap₂}
use mathlib.Core.Bool.{true, false}
use mathlib.Core.Logic.{◌⊎◌, inl, inr}
use mathlib.Core.Option.{some}
use mathlib.Core.List.{List, [], ◌∷◌, ◌++◌, map}
use Prim.Native.Nat.{ℕ, zero, suc, ◌+◌, ◌≤◌, ◌<◌}
use native.Mathlib.Omega.{arith}
use lib.ListN.{length, get_or, take, drop, set}
use Rattle.language.specs.Lists.{nth}

pub lt_or : (a b : ℕ) → (a < b) ⊎ (b ≤ a)
lt_or a b = go (ltb a b) refl
  where
    go : (t : Bool) → ltb a b ≡ t → (a < b) ⊎ (b ≤ a)
    go true e = inl (ltb-true a b e)
    go false e = inr (ltb-false a b e)

pub nth_ext : {A : Type 0} (a b : List A) → length a ≡ length b → ((i : ℕ) → i < length a → nth a i ≡ nth b i)
    → a ≡ b
unfolding nth
nth_ext [] [] e f = refl
nth_ext [] (y ∷ b) e f = absurd (omega arith)
nth_ext (x ∷ a) [] e f = absurd (omega arith)
nth_ext (x ∷ a) (y ∷ b) e f =
    ap₂ (λ (z : _) (l : List _). z ∷ l) (inj (f 0 (omega arith)))
    (nth_ext a b (suc_inj e) (λ i h. f (suc i) (omega arith)))

pub nth_getD : {A : Type 0} (l : List A) (i : ℕ) (d : A) → i < length l → nth l i ≡ some (get_or l i d)
unfolding nth
nth_getD [] i d h = absurd (omega arith)
nth_getD (x ∷ l) zero d h = refl
nth_getD (x ∷ l) (suc i) d h = nth_getD l i d (omega arith)

pub nth_none : {A : Type 0} (l : List A) (i : ℕ) → length l ≤ i → nth l i ≡ none
unfolding nth
nth_none [] i h = refl
nth_none (x ∷ l) zero h = absurd (omega arith)
nth_none (x ∷ l) (suc i) h = nth_none l i (omega arith)

pub map_set : {A B : Type 0} (f : A → B) (l : List A) (i : ℕ) (a : A)
    → map f (set l i a) ≡ set (map f l) i (f a)
map_set f [] i a = refl
map_set f (x ∷ xs) zero a = refl
map_set {B = B} f (x ∷ xs) (suc i) a = ap (λ (l : List B). f x ∷ l) (map_set f xs i a)

pub nth_take : {A : Type 0} (n : ℕ) (l : List A) (i : ℕ) → i < n → nth (take n l) i ≡ nth l i
unfolding nth
nth_take zero l i h = absurd (omega arith)
nth_take (suc n) [] i h = refl
nth_take (suc n) (x ∷ l) zero h = refl
nth_take (suc n) (x ∷ l) (suc i) h = nth_take n l i (omega arith)

pub nth_drop : {A : Type 0} (n : ℕ) (l : List A) (i : ℕ) → nth (drop n l) i ≡ nth l (n + i)
unfolding nth
nth_drop zero l i = let e : 0 + i ≡ i = omega arith in rw e
nth_drop (suc n) [] i = refl
nth_drop (suc n) (x ∷ l) i = let e : suc n + i ≡ suc (n + i) = omega arith in rw e (nth_drop n l i)

pub nth_past : {A : Type 0} (l r : List A) (i : ℕ) → nth (l ++ r) (length l + i) ≡ nth r i
unfolding nth
nth_past [] r i = let e : 0 + i ≡ i = omega arith in rw e
nth_past (x ∷ l) r i = let e : suc (length l) + i ≡ suc (length l + i) = omega arith in rw e (nth_past l r i)

pub some_at : {A : Type 0} (l : List A) (i : ℕ) → i < length l → (a : A) × (nth l i ≡ some a)
unfolding nth
some_at [] i h = absurd (omega arith)
some_at (x ∷ l) zero h = (x, refl)
some_at (x ∷ l) (suc i) h = some_at l i (omega arith)

-- Laws of lines one after another, of whatever letter: the line of each member, what holds of each row, and of the row
-- that comes first; and of runs of one letter. Assumes nothing.
use mathlib.Core.Path.{◌≡◌, subst}
use mathlib.Core.Option.{some}
use mathlib.Core.Logic.{◌⊎◌, inl, inr, ⊎_elim}
use mathlib.Core.List.{List, [], ◌∷◌, map}
use Prim.Native.Nat.{ℕ, zero, suc, ◌+◌, ◌*◌, ◌≤◌, ◌<◌}
use lib.ListN.{length, get_or}
use native.Mathlib.Omega.{arith}
use Rattle.language.specs.Lists.{nth, Never, inj}
use Rattle.language.specs.Encoded.{LinesAt}
use Rattle.language.specs.Layout.{Run}

module _ {A : Type 0} (Q : A → ℕ → Type 0) where
  -- The line of the i-th member.
  pub line_at : (xs : List A) (r : ℕ) → LinesAt Q xs r → (i : ℕ) (x : A) → nth xs i ≡ some x → Q x (r + i)
  unfolding LinesAt nth
  line_at [] r h i x e = absurd (Never e)
  line_at (y ∷ xs) r h zero x e = let z : r ≡ r + 0 = omega arith in
      subst (Q x) z (subst (λ (y : A). Q y r) (inj e) h.0)
  line_at (y ∷ xs) r h (suc i) x e = let z : r + 1 + i ≡ r + suc i = omega arith in
      subst (Q x) z (line_at xs (r + 1) h.1 i x e)

  module _ (S : ℕ → Type 0) (holds : (x : A) (i : ℕ) → Q x i → S i) where
    -- What holds of the row of any line holds of each row.
    pub each_line : (xs : List A) (r : ℕ) → LinesAt Q xs r → (i : ℕ) → i < length xs → S (r + i)
    unfolding LinesAt
    each_line [] r h i l = absurd (omega (arith, l))
    each_line (x ∷ xs) r h zero l = let z : r ≡ r + 0 = omega arith in subst S z (holds x r h.0)
    each_line (x ∷ xs) r h (suc i) l = let z : r + 1 + i ≡ r + suc i = omega arith in
        subst S z (each_line xs (r + 1) h.1 i (omega (arith, l)))

    -- What holds of any line's row and of the row after the lines holds of the row where they begin.
    pub first_line : (xs : List A) (r : ℕ) → LinesAt Q xs r → S (r + length xs) → S r
    unfolding LinesAt
    first_line [] r h s = let z : r + 0 ≡ r = omega arith in subst S z s
    first_line (x ∷ xs) r h s = holds x r h.0

-- Lines of what a function makes of each member.
pub lines_map : {A B : Type 0} (Q : B → ℕ → Type 0) (f : A → B) (xs : List A) (r : ℕ) → LinesAt Q (map f xs) r
    → LinesAt (λ (x : A) (i : ℕ). Q (f x) i) xs r
unfolding LinesAt
lines_map Q f [] r h = tt
lines_map Q f (x ∷ xs) r h = (h.0, lines_map Q f xs (r + 1) h.1)

-- Lines of one letter, and a row of another, are a run.
pub lines_run : {A : Type 0} (Q : A → ℕ → Type 0) (R : List ℕ) (letter : ℕ)
    → ((x : A) (i : ℕ) → Q x i → get_or R (i * 4) 0 ≡ letter) → (xs : List A) (r : ℕ) → LinesAt Q xs r
    → (r + length xs) * 4 + 3 < length R
    → (get_or R ((r + length xs) * 4) 0 ≡ letter → ⊥)
    → Run R letter r (length xs)
lines_run Q R letter holds xs r h w o =
    record { each = each_line Q (λ i. get_or R (i * 4) 0 ≡ letter) holds xs r h; inside = w; other = o }

pub le_or_less : (a b : ℕ) → (a ≤ b) ⊎ (b < a)
le_or_less zero b = inl (omega arith)
le_or_less (suc a) zero = inr (omega arith)
le_or_less (suc a) (suc b) = ⊎_elim (λ h. inl (omega arith)) (λ h. inr (omega arith)) (le_or_less a b)

pub less_or_same : (a b : ℕ) → a ≤ b → (a < b) ⊎ (a ≡ b)
less_or_same a b l = ⊎_elim (λ (h : b ≤ a). inr (omega arith)) (λ (h : a < b). inl h) (le_or_less b a)

-- Two runs from one row on are as long.
pub run_unique : {R : List ℕ} {letter from n m : ℕ} → Run R letter from n → Run R letter from m → n ≡ m
run_unique {n = n} {m} p q = ⊎_elim
    (λ (l : n ≤ m). ⊎_elim (λ (k : m ≤ n). omega arith) (λ (k : n < m). absurd (p.other (q.each n k)))
    (le_or_less m n))
    (λ (l : m < n). absurd (q.other (p.each m l)))
    (le_or_less n m)

-- Lists by place: what stands at a place, lists related place by place, and their laws.
use Rattle.std.specs.Prelude.{◌≡◌, Bool, true, false, ◌⊎◌, ◌≢◌, length, take, drop, set}
use Rattle.std.proofs.Math.Path.{refl, ap}
use Rattle.std.proofs.Common.{sym}
use Prim.Native.Nat.{ℕ, zero, suc, ◌<◌}
use Rattle.std.proofs.Math.Nat.{suc_inj}
use native.Mathlib.Omega.{arith}
use Rattle.std.proofs.Math.Option.{Option, none, some, none-ne-some, some-injective}
use mathlib.Core.List.{List, [], ◌∷◌, ◌++◌, map}
use Rattle.std.proofs.Math.Logic.{inl, inr}

-- Nothing is something; something is one thing.
pub Never : {A : Type 0} {a : A} → ◌≡◌ {A = Option A} none (some a) → ⊥
Never {a} e = none-ne-some a e

pub inj : {A : Type 0} {a b : A} → ◌≡◌ {A = Option A} (some a) (some b) → a ≡ b
inj {a} {b} e = some-injective a b e

-- What stands at a place, from 0.
unfoldable pub nth : {A : Type 0} → List A → ℕ → Option A
nth [] i = none
nth (a ∷ l) zero = some a
nth (a ∷ l) (suc i) = nth l i

abbrev pub bind_option : {A B : Type 0} → Option A → (A → Option B) → Option B
bind_option none k = none
bind_option (some a) k = k a

-- What is said of the thing, if there is one.
abbrev pub given : {A B : Type 0} → Option A → B → (A → B) → B
given none b f = b
given (some a) b f = f a

-- A choice whose arms wait, so that only the one taken is computed.
abbrev pub choice : {A : Type 0} → Bool → (Bool → A) → (Bool → A) → A
choice true x y = x true
choice false x y = y false

abbrev pub map_option : {A B : Type 0} → (A → B) → Option A → Option B
map_option f none = none
map_option f (some a) = some (f a)

pub bind_option_inv : {A B C : Type 0} (r : Option A) (k : A → Option B) {b : B} → bind_option r k ≡ some b
    → ((a : A) → r ≡ some a → k a ≡ some b → C) → C
bind_option_inv none k e f = absurd (Never e)
bind_option_inv (some a) k e f = f a refl e

-- What holds of each of a list.
pub data Each {A : Type 0} (R : A → Type 0) : List A → Type 0 where
  each_nil : Each R []
  each_cons : {a : A} {l : List A} → R a → Each R l → Each R (a ∷ l)

-- Two lists related place by place.
pub data All2 {A B : Type 0} (R : A → B → Type 0) : List A → List B → Type 0 where
  a_nil : All2 R [] []
  a_cons : {a : A} {b : B} {xs : List A} {ys : List B} → R a b → All2 R xs ys → All2 R (a ∷ xs) (b ∷ ys)

module _ {A B : Type 0} {R : A → B → Type 0} where
  pub all2_at : {xs : List A} {ys : List B} → All2 R xs ys → (k : ℕ) (y : B) → nth ys k ≡ some y
      → (x : A) × (nth xs k ≡ some x) × R x y
  unfolding nth
  all2_at a_nil k y e = absurd (Never e)
  all2_at (a_cons {a} r rs) zero y e = (a, refl, rw (inj e) at r)
  all2_at (a_cons r rs) (suc k) y e = all2_at rs k y e

  pub all2_at' : {xs : List A} {ys : List B} → All2 R xs ys → (k : ℕ) (x : A) → nth xs k ≡ some x
      → (y : B) × (nth ys k ≡ some y) × R x y
  unfolding nth
  all2_at' a_nil k x e = absurd (Never e)
  all2_at' (a_cons {b} r rs) zero x e = (b, refl, rw (inj e) at r)
  all2_at' (a_cons r rs) (suc k) x e = all2_at' rs k x e

  pub all2_set : {xs : List A} {ys : List B} → All2 R xs ys → (k : ℕ) (x : A) (y : B) → nth ys k ≡ some y
      → R x y
      → All2 R (set xs k x) ys
  unfolding nth
  all2_set a_nil k x y e r = a_nil
  all2_set (a_cons r rs) zero x y e r' = a_cons (rw (sym (inj e)) at r') rs
  all2_set (a_cons r rs) (suc k) x y e r' = a_cons r (all2_set rs k x y e r')

  pub all2_set_right : {xs : List A} {ys : List B} → All2 R xs ys → (k : ℕ) (x : A) (y : B)
      → nth xs k ≡ some x → R x y
      → All2 R xs (set ys k y)
  unfolding nth
  all2_set_right a_nil k x y e r = a_nil
  all2_set_right (a_cons r rs) zero x y e r' = a_cons (rw (sym (inj e)) at r') rs
  all2_set_right (a_cons r rs) (suc k) x y e r' = a_cons r (all2_set_right rs k x y e r')

  pub all2_set₂ : {xs : List A} {ys : List B} → All2 R xs ys → (k : ℕ) (x : A) (y : B) → R x y
      → All2 R (set xs k x) (set ys k y)
  all2_set₂ a_nil k x y r = a_nil
  all2_set₂ (a_cons r rs) zero x y r' = a_cons r' rs
  all2_set₂ (a_cons r rs) (suc k) x y r' = a_cons r (all2_set₂ rs k x y r')

  pub all2_append : {xs xs' : List A} {ys ys' : List B} → All2 R xs ys → All2 R xs' ys'
      → All2 R (xs ++ xs') (ys ++ ys')
  all2_append a_nil s = s
  all2_append (a_cons r rs) s = a_cons r (all2_append rs s)

  pub all2_take : {xs : List A} {ys : List B} → (n : ℕ) → All2 R xs ys → All2 R (take n xs) (take n ys)
  all2_take zero rs = a_nil
  all2_take (suc n) a_nil = a_nil
  all2_take (suc n) (a_cons {xs = xs} r rs) = a_cons r (all2_take {xs = xs} n rs)

  pub all2_length : {xs : List A} {ys : List B} → All2 R xs ys → length xs ≡ length ys
  all2_length a_nil = refl
  all2_length (a_cons r rs) = ap suc (all2_length rs)

pub all2_map : {A B : Type 0} {R S : A → B → Type 0} (f : B → B) → ((a : A) (b : B) → R a b → S a (f b))
    → {xs : List A} {ys : List B}
    → All2 R xs ys → All2 S xs (map f ys)
all2_map f g a_nil = a_nil
all2_map f g (a_cons r rs) = a_cons (g _ _ r) (all2_map f g rs)

pub all2_mono : {A B : Type 0} {R S : A → B → Type 0} → ((a : A) (b : B) → R a b → S a b)
    → {xs : List A} {ys : List B} → All2 R xs ys → All2 S xs ys
all2_mono g a_nil = a_nil
all2_mono g (a_cons r rs) = a_cons (g _ _ r) (all2_mono g rs)

-- As before, where the relation may use that the second is one of the list.
pub all2_mono_at : {A B : Type 0} {R S : A → B → Type 0} {xs : List A} {ys : List B} → All2 R xs ys
    → ((i : ℕ) (a : A) (b : B) → nth ys i ≡ some b → R a b → S a b) → All2 S xs ys
unfolding nth
all2_mono_at a_nil g = a_nil
all2_mono_at (a_cons r rs) g = a_cons (g 0 _ _ refl r) (all2_mono_at rs (λ i a b e h. g (suc i) a b e h))

module _ {A : Type 0} where
  pub nth_set_same : (l : List A) (i : ℕ) (a b : A) → nth l i ≡ some b → nth (set l i a) i ≡ some a
  unfolding nth
  nth_set_same [] i a b e = absurd (Never e)
  nth_set_same (x ∷ l) zero a b e = refl
  nth_set_same (x ∷ l) (suc i) a b e = nth_set_same l i a b e

  pub nth_set_other : (l : List A) (i j : ℕ) (a : A) → i ≢ j → nth (set l i a) j ≡ nth l j
  unfolding nth
  nth_set_other [] i j a n = refl
  nth_set_other (x ∷ l) zero zero a n = absurd (n refl)
  nth_set_other (x ∷ l) zero (suc j) a n = refl
  nth_set_other (x ∷ l) (suc i) zero a n = refl
  nth_set_other (x ∷ l) (suc i) (suc j) a n = nth_set_other l i j a (λ e. n (ap suc e))

  pub nth_some : (l : List A) (i : ℕ) → i < length l → (a : A) × (nth l i ≡ some a)
  unfolding nth
  nth_some [] i p = absurd (omega arith)
  nth_some (x ∷ l) zero p = (x, refl)
  nth_some (x ∷ l) (suc i) p = nth_some l i (omega arith)

  pub nth_append : (l r : List A) (i : ℕ) (a : A) → nth l i ≡ some a → nth (l ++ r) i ≡ some a
  unfolding nth
  nth_append [] r i a e = absurd (Never e)
  nth_append (x ∷ l) r zero a e = e
  nth_append (x ∷ l) r (suc i) a e = nth_append l r i a e

  pub nth_last : (l : List A) (a : A) → nth (l ++ (a ∷ [])) (length l) ≡ some a
  unfolding nth
  nth_last [] a = refl
  nth_last (x ∷ l) a = nth_last l a

  -- What stands at a place of a list with one more at its end.
  pub nth_append_one : (l : List A) (a : A) (i : ℕ) (b : A) → nth (l ++ (a ∷ [])) i ≡ some b
      → (nth l i ≡ some b) ⊎ ((i ≡ length l) × (a ≡ b))
  unfolding nth
  nth_append_one [] a zero b e = inr (refl, inj e)
  nth_append_one [] a (suc i) b e = absurd (Never e)
  nth_append_one (x ∷ l) a zero b e = inl e
  nth_append_one (x ∷ l) a (suc i) b e = elim (nth_append_one l a i b e)
      [ inl h ↦ inl h | inr h ↦ inr (ap suc h.0, h.1) ]

  -- What stands at a place of a changed list.
  pub nth_set : (l : List A) (i : ℕ) (a : A) (j : ℕ) (b : A) → nth (set l i a) j ≡ some b
      → ((i ≢ j) × (nth l j ≡ some b)) ⊎ ((i ≡ j) × (a ≡ b))
  unfolding nth
  nth_set [] i a j b e = absurd (Never e)
  nth_set (x ∷ l) zero a zero b e = inr (refl, inj e)
  nth_set (x ∷ l) zero a (suc j) b e = inl ((omega arith), e)
  nth_set (x ∷ l) (suc i) a zero b e = inl ((omega arith), e)
  nth_set (x ∷ l) (suc i) a (suc j) b e = elim (nth_set l i a j b e)
      [ inl h ↦ inl ((λ p. h.0 (suc_inj p)), h.1) | inr h ↦ inr (ap suc h.0, h.1) ]

-- The k-th place after n.
abbrev pub up : ℕ → ℕ → ℕ
up zero n = n
up (suc k) n = suc (up k n)

up_zero : (k : ℕ) → up k 0 ≡ k
up_zero zero = refl
up_zero (suc k) = ap suc (up_zero k)

pub up_suc : (k n : ℕ) → up k (suc n) ≡ suc (up k n)
up_suc zero n = refl
up_suc (suc k) n = ap suc (up_suc k n)

module _ {A : Type 0} where
  pub nth_up : (l m : List A) (k : ℕ) → nth (l ++ m) (up k (length l)) ≡ nth m k
  unfolding nth
  nth_up [] m k = rw (up_zero k)
  nth_up (x ∷ l) m k = rw (up_suc k (length l)) (nth_up l m k)

  pub set_up : (l m : List A) (k : ℕ) (a : A) → set (l ++ m) (up k (length l)) a ≡ l ++ set m k a
  set_up [] m k a = rw (up_zero k)
  set_up (x ∷ l) m k a = rw (up_suc k (length l)) (ap (λ r. x ∷ r) (set_up l m k a))

  pub nth₀ : (a : A) (l : List A) → nth (a ∷ l) 0 ≡ some a
  unfolding nth
  nth₀ a l = refl

  pub nth₁ : (a b : A) (l : List A) → nth (a ∷ b ∷ l) 1 ≡ some b
  unfolding nth
  nth₁ a b l = refl

  pub nth₂ : (a b c : A) (l : List A) → nth (a ∷ b ∷ c ∷ l) 2 ≡ some c
  unfolding nth
  nth₂ a b c l = refl

  pub nth_suc : (a : A) (l : List A) (q : ℕ) → nth (a ∷ l) (suc q) ≡ nth l q
  unfolding nth
  nth_suc a l q = refl

  pub nth_lt : (l : List A) (i : ℕ) (a : A) → nth l i ≡ some a → i < length l
  unfolding nth
  nth_lt [] i a e = absurd (Never e)
  nth_lt (x ∷ l) zero a e = omega arith
  nth_lt (x ∷ l) (suc i) a e = omega (arith, nth_lt l i a e)

  -- The first n of one list, the rest of another.
  abbrev pub mix : ℕ → List A → List A → List A
  mix n a b = take n a ++ drop n b

  pub mix_step : (n : ℕ) (a b : List A) (x y : A) → nth a n ≡ some x → nth b n ≡ some y
      → set (mix n a b) n x ≡ mix (suc n) a b
  unfolding nth
  mix_step n [] b x y e f = absurd (Never e)
  mix_step n (p ∷ a) [] x y e f = absurd (Never f)
  mix_step zero (p ∷ a) (q ∷ b) x y e f = ap (λ r. r ∷ b) (sym (inj e))
  mix_step (suc n) (p ∷ a) (q ∷ b) x y e f = ap (λ r. p ∷ r) (mix_step n a b x y e f)

pub drop_map : {A B : Type 0} (f : A → B) (n : ℕ) (l : List A) → drop n (map f l) ≡ map f (drop n l)
drop_map f zero l = refl
drop_map f (suc n) [] = refl
drop_map f (suc n) (x ∷ l) = drop_map f n l

pub nth_map : {A B : Type 0} (f : A → B) (n : ℕ) (l : List A) (a : A) → nth l n ≡ some a
    → nth (map f l) n ≡ some (f a)
unfolding nth
nth_map f n [] a e = absurd (Never e)
nth_map f zero (x ∷ l) a e = ap (λ r. some (f r)) (inj e)
nth_map f (suc n) (x ∷ l) a e = nth_map f n l a e

-- Laws of classes in a list where each has an earlier superclass: the sets of superclasses decide the subclass test,
-- roots are classes, and the nearest common superclass is found by going up. Assumes nothing.
use mathlib.Core.Path.{◌≡◌, refl, sym, ap₂, ◌∙◌}
use mathlib.Core.Bool.{Bool, true, false, ◌||◌, cond}
use mathlib.Core.Option.{Option, none, some}
use mathlib.Core.List.{List}
use Prim.Native.Nat.{ℕ, zero, suc, ◌≤◌, ◌<◌}
use native.Mathlib.Omega.{arith}
use borrow.Author.Tests.{ne_eqb}
use lib.Dec.{eqb}
use lib.ListN.{length}
use Rattle.language.specs.Lists.{nth_some, choice, given, nth_lt, Never}
use Rattle.language.specs.Tree.{Class}
use Rattle.language.specs.Effects.{member, join, effect_of, apply_class}
use Rattle.language.specs.Program.{is_state, class_at, below_at, root_at, nearest_at, world, world_with}
use Rattle.language.specs.ClassTables.{above_at, above}
use Rattle.language.proofs.Effects.{member_join, member_none, member_of}

module _ (P : List Class) where
  -- A number up to the count is Object or a class.
  pub class_some : (k : ℕ) → 1 ≤ k → k ≤ length P → (c : Class) × (class_at P k ≡ some c)
  unfolding class_at
  class_some zero h l = absurd (omega arith)
  class_some (suc k) h l = nth_some P k (omega arith)

  pub class_count : (k : ℕ) (c : Class) → class_at P k ≡ some c → (1 ≤ k) × (k ≤ length P)
  unfolding class_at
  class_count zero c e = absurd (Never e)
  class_count (suc k) c e = (omega arith, omega (arith, nth_lt P k c e))

  class_none : (k : ℕ) → k ≤ length P → class_at P k ≡ none → k ≡ 0
  class_none zero l e = refl
  class_none (suc k) l e = let w = class_some (suc k) (omega arith) l in absurd (Never (sym e ∙ w.1))

  module _ (lower : (k : ℕ) (c : Class) → class_at P k ≡ some c → c.super < k) where
    super-in : (k : ℕ) (c : Class) → class_at P k ≡ some c → c.super ≤ length P
    super-in k c e = omega (arith, lower k c e, (class_count k c e).1)

    below-zero : (n k : ℕ) → k ≤ length P → below_at P n k 0 ≡ true
    unfolding below_at
    below-zero zero k l = refl
    below-zero (suc n) k l = go (λ j m. below-zero n j m) (eqb k 0) (class_at P k) refl
      where
        go : ((j : ℕ) → j ≤ length P → below_at P n j 0 ≡ true) → (b : Bool) (o : Option Class)
            → class_at P k ≡ o → b || given o true (λ c. below_at P n c.super 0) ≡ true
        go rec true o e = refl
        go rec false none e = refl
        go rec false (some c) e = rec c.super (super-in k c e)

    -- The subclass test by the set of superclasses.
    pub below_above : (n k d : ℕ) → k ≤ length P → 1 ≤ d → below_at P n k d ≡ member (above_at P n k) d
    unfolding below_at above_at
    below_above zero k d l h = ne_eqb d 0 (λ e. omega arith) ∙ sym (member_none d)
    below_above (suc n) k d l h = go (λ j m. below_above n j d m h) (class_at P k) refl
      where
        go : ((j : ℕ) → j ≤ length P → below_at P n j d ≡ member (above_at P n j) d) → (o : Option Class)
            → class_at P k ≡ o
            → eqb k d || given o (eqb d 0) (λ c. below_at P n c.super d)
            ≡ member (given o 0 λ c. join (effect_of k) (above_at P n c.super)) d
        go rec none e =
            let z : k ≡ 0 = class_none k l e in
            ap₂ (λ x y. x || y) (ne_eqb k d (λ q. omega arith)) (ne_eqb d 0 (λ q. omega arith))
            ∙ sym (member_none d)
        go rec (some c) e =
            sym (member_join (effect_of k) (above_at P n c.super) d
            ∙ ap₂ (λ x y. x || y) (member_of k d (class_count k c e).0 h)
            (sym (rec c.super (super-in k c e))))

    pub below_object : (k : ℕ) → k ≤ length P → (world P).below k 0 ≡ true
    unfolding world world_with
    below_object k l = below-zero (suc k) k l

    pub below_is : (k d : ℕ) → k ≤ length P → 1 ≤ d → (world P).below k d ≡ member (above P k) d
    unfolding world world_with above
    below_is k d l h = below_above (suc k) k d l h

    -- A root is no later than its class.
    root-low : (n k : ℕ) → root_at P n k ≤ k
    unfolding root_at
    root-low zero k = omega arith
    root-low (suc n) k = go (λ j. root-low n j) (class_at P k) refl
      where
        pick : ((j : ℕ) → root_at P n j ≤ j) → (b : Bool) (c : Class) → class_at P k ≡ some c
            → choice b (λ _. root_at P n c.super) (λ _. k) ≤ k
        pick rec true c e = omega (arith, rec c.super, lower k c e)
        pick rec false c e = omega arith

        go : ((j : ℕ) → root_at P n j ≤ j) → (o : Option Class) → class_at P k ≡ o
            → given o k (λ c. choice (is_state c.kind) (λ _. root_at P n c.super) (λ _. k)) ≤ k
        go rec none e = omega arith
        go rec (some c) e = pick rec (is_state c.kind) c e

    pub root_within : (k : ℕ) → (world P).root k ≤ k
    unfolding world world_with
    root_within k = root-low (suc k) k

    pub apply_within : (φ k : ℕ) → apply_class (world P) φ k ≤ k
    unfolding apply_class
    apply_within φ k = go (member φ ((world P).root k))
      where
        go : (b : Bool) → cond b ((world P).root k) k ≤ k
        go true = root_within k
        go false = omega arith

    -- More superclasses than there are change nothing.
    nearest-more : (n m k d : ℕ) → k < n → k < m → nearest_at P n k d ≡ nearest_at P m k d
    unfolding nearest_at
    nearest-more zero m k d h l = absurd (omega arith)
    nearest-more (suc n) zero k d h l = absurd (omega arith)
    nearest-more (suc n) (suc m) k d h l =
        go (λ j x y. nearest-more n m j d x y) (below_at P (suc d) d k) (class_at P k) refl
      where
        go : ((j : ℕ) → j < n → j < m → nearest_at P n j d ≡ nearest_at P m j d)
            → (b : Bool) (o : Option Class) → class_at P k ≡ o
            → choice b (λ _. k) (λ _. given o 0 λ c. nearest_at P n c.super d)
            ≡ choice b (λ _. k) (λ _. given o 0 λ c. nearest_at P m c.super d)
        go rec true o e = refl
        go rec false none e = refl
        go rec false (some c) e = rec c.super (omega (arith, lower k c e)) (omega (arith, lower k c e))

    pub nearest_here : (k d : ℕ) → (world P).below d k ≡ true → (world P).nearest k d ≡ k
    unfolding world world_with nearest_at
    nearest_here k d e = rw e

    pub nearest_up : (k d : ℕ) (c : Class) → class_at P k ≡ some c → (world P).below d k ≡ false
        → (world P).nearest k d ≡ (world P).nearest c.super d
    unfolding world world_with nearest_at
    nearest_up k d c e f =
        rw (f, e) (nearest-more k (suc c.super) c.super d (lower k c e) (omega arith))

    nearest-low : (n k d : ℕ) → k ≤ length P → nearest_at P n k d ≤ k
    unfolding nearest_at
    nearest-low zero k d l = omega arith
    nearest-low (suc n) k d l = go (λ j m. nearest-low n j d m) (below_at P (suc d) d k) (class_at P k) refl
      where
        go : ((j : ℕ) → j ≤ length P → nearest_at P n j d ≤ j) → (b : Bool) (o : Option Class)
            → class_at P k ≡ o
            → choice b (λ _. k) (λ _. given o 0 λ c. nearest_at P n c.super d) ≤ k
        go rec true o e = omega arith
        go rec false none e = omega arith
        go rec false (some c) e = omega (arith, rec c.super (super-in k c e), lower k c e)

    pub nearest_within : (k d : ℕ) → k ≤ length P → (world P).nearest k d ≤ k
    unfolding world world_with
    nearest_within k d l = nearest-low (suc k) k d l
